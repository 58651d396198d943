use Rattle.std.proofs.Common.{◌∷◌, [], map, sym, subst, append-nil}
use Rattle.std.proofs.lemmas.Result.{err_from_is_err_and}
use Rattle.cpg_record.specs.Events.{inbox}
use Rattle.cpg_record.specs.Judging.{judged}
use Rattle.cpg_print.specs.Events.{inbox_line, event_line}
use Rattle.cpg_judge.specs.Gathering.{Gathers}
use Rattle.cpg_judge.specs.Inboxes.{InboxValue}
use Rattle.cpg_judge.proofs.Behind.{gathers_memory, gathers_put, gathers_stop, gathers_then}
use Rattle.cpg_judge.proofs.output.write_inbox.Goals as goal

pub returns-in_err-put_inbox : goal.returns-in_err-put_inbox
returns-in_err-put_inbox g c =
    let failed = err_from_is_err_and c.from_residual.result c.from_residual.ensures.1 in
    rw (failed.1, failed.2) (gathers_stop _ _ _ _ _ (inbox_line c.args.conn.now ∷ []) (map event_line (inbox (judged c.args.policy.now) c.args.conn.now))
    (gathers_memory _ _ _ _ (inbox_line c.args.conn.now ∷ []) c.in_err-put_inbox.ensures.memory))

pub returns : goal.returns
returns g c =
    let told = subst (λ (value : InboxValue). Gathers c.write_places.result (g.W.Write.contents c.args.writer.now) c.put_inbox.new.line.items (g.W.Write.contents c.write_places.new.writer) c.write_places.new.lines.items (map event_line (inbox (judged value.entries) value.conn))) c.of.ensures c.write_places.ensures in
    gathers_then c.write_places.result _ _ _ _ _ _ (inbox_line c.args.conn.now ∷ []) (map event_line (inbox (judged c.args.policy.now) c.args.conn.now))
    (gathers_put _ _ _ _ (inbox_line c.args.conn.now ∷ []) (sym (append-nil (inbox_line c.args.conn.now))) c.in_ok-put_inbox.ensures.ok) told
