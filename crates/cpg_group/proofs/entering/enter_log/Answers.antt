use Rattle.std.proofs.Common.{List, [], ◌∷◌, ◌++◌, sym, ap, subst, ◌∙◌}
use Rattle.cpg_record.specs.declared.records.Record.{Record}
use Rattle.cpg_record.specs.Connections.{conn_of}
use Rattle.cpg_record.specs.Judging.{record_of}
use Rattle.cpg_group.specs.declared.logs.Stop.{Stop}
use Rattle.cpg_group.specs.ConnectionLogs.{IsConnectionLog, StandsBy}
use Rattle.cpg_group.proofs.Stops.{log_longer}
use Rattle.cpg_group.proofs.entering.enter_log.Goals as goal

pub returns-clause-longer : goal.returns-clause-longer
returns-clause-longer c =
    let rs : List Record = c.args.records.now in
    let next : Record = record_of c.args.records.now c.args.next.now.entry in
    let stops = c.push_reserved.ensures.items ∙ ap (λ (stops : List Stop). stops ++ c.stop_of-stop.result ∷ []) c.make_room.ensures.items in
    let by : StandsBy (rs ++ next ∷ []) (conn_of c.args.next.now.entry) c.stop_of-stop.result =
    subst (λ (r : Record). StandsBy (c.args.records.now ++ r ∷ []) (conn_of r.entry) c.stop_of-stop.result) c.in_ok-enter_groups.ensures.ok c.stop_of-stop.ensures.join in
    subst (IsConnectionLog (rs ++ next ∷ []) (conn_of c.args.next.now.entry)) (sym stops)
    (log_longer c.args.records.now next c.stop_of-stop.result c.args.log.now.items (c.stop_of-stop.ensures.place ∙ c.requires.place) by c.requires.log)
