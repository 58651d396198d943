use Rattle.std.proofs.Common.{sym, ap, ◌∙◌}
use Rattle.cpg_entry.specs.declared.entries.Entry.{Entry}
use Rattle.cpg_entry.specs.Entries.{is_move}
use Rattle.cpg_record.specs.Connections.{conn_of}
use Rattle.cpg_why.specs.Moves.{kept_move}
use Rattle.cpg_why.proofs.Moved.{moved_by}
use Rattle.cpg_why.proofs.moves.Moves.take_in.Goals as goal

pub returns-in_ok-insert-clause-ok : goal.returns-in_ok-insert-clause-ok
returns-in_ok-insert-clause-ok c = λ conn.
    c.in_ok-insert.ensures.updates.0 conn
    ∙ moved_by c.args.place c.args.past.now c.of.result conn (kept_move c.args.self.now.kept.entries conn) c.of.ensures
    (sym c.is_allowed.ensures ∙ c.if-is_allowed.true)
    (sym c.is_move.ensures ∙ c.if-is_move.true)
