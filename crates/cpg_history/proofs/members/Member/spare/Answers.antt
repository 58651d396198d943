use Rattle.std.proofs.Common.{true, ap, sym, subst}
use Rattle.cpg_station.specs.Stations.{StationValue}
use Rattle.cpg_board.specs.Words.{is_counted}
use Rattle.cpg_history.specs.Members.{HasTrace, IsMember}
use Rattle.cpg_history.proofs.Serving.{spared}
use Rattle.cpg_history.proofs.members.Member.spare.Goals as goal

pub invariant_of-result : goal.invariant_of-result
invariant_of-result g c =
    let start = g.B.HistoryName.start in
    subst (λ t. IsMember start c.args.id c.halt.new.self true c.args.pen × HasTrace (is_counted g.B.HistoryName.table) start c.args.id true c.args.pen.seen t) (sym c.new.ensures)
    (spared (is_counted g.B.HistoryName.table) start c.args.id c.halt.new.self c.args.pen c.requires (ap (λ (s : StationValue). s.halted) c.halt.ensures))
