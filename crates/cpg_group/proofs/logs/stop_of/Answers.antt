use Rattle.std.proofs.Common.{ℕ, [], ◌∷◌, ◌++◌, sym, subst}
use Rattle.cpg_record.specs.Connections.{conn_of}
use Rattle.cpg_group.specs.ConnectionLogs.{StandsBy}
use Rattle.cpg_group.proofs.Stops.{stop_stands}
use Rattle.cpg_group.proofs.logs.stop_of.Goals as goal

pub returns-clause-join : goal.returns-clause-join
returns-clause-join c =
    subst (λ (k : ℕ). StandsBy (c.args.records.now ++ c.args.next.now ∷ []) (conn_of c.args.next.now.entry) (record { place = c.args.place; join = k })) (sym c.next_join-join.ensures)
    (stop_stands c.args.records.now c.args.next.now c.args.place c.requires.next c.join_last-standing.result
    (c.join_last-standing.ensures.early c.args.records.now (conn_of c.args.next.now.entry) c.requires.log)
    (c.join_last-standing.ensures.group c.args.records.now (conn_of c.args.next.now.entry) c.requires.log))
