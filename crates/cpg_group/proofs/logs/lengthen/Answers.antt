use Rattle.std.proofs.Common.{List, [], ◌∷◌, ◌++◌, sym, ap, subst, ◌∙◌}
use Rattle.cpg_record.specs.Connections.{conn_of}
use Rattle.cpg_group.specs.declared.logs.Stop.{Stop}
use Rattle.cpg_group.specs.ConnectionLogs.{IsConnectionLog}
use Rattle.cpg_group.proofs.Stops.{log_longer}
use Rattle.cpg_group.proofs.logs.lengthen.Goals as goal

pub returns-clause-longer : goal.returns-clause-longer
returns-clause-longer c =
    let stops = c.push_reserved.ensures.items ∙ ap (λ (stops : List Stop). stops ++ c.stop_of-stop.result ∷ []) c.make_room.ensures.items in
    subst (IsConnectionLog (c.args.records.now ++ c.args.next.now ∷ []) (conn_of c.args.next.now.entry)) (sym stops)
    (log_longer c.args.records.now c.args.next.now c.stop_of-stop.result c.args.log.now.items (c.stop_of-stop.ensures.place ∙ c.requires.place) c.stop_of-stop.ensures.join c.requires.log)
