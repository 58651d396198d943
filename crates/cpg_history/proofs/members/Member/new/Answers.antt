use Rattle.std.proofs.Common.{false, sym, subst}
use Rattle.cpg_board.specs.Words.{is_counted}
use Rattle.cpg_history.specs.Members.{HasTrace, IsMember}
use Rattle.cpg_history.proofs.Serving.{begun}
use Rattle.cpg_history.proofs.members.Member.new.Goals as goal

pub invariant_of-result : goal.invariant_of-result
invariant_of-result g c =
    let start = g.B.HistoryName.start in
    subst (λ t. IsMember start c.args.id c.args.station false c.args.pen × HasTrace (is_counted g.B.HistoryName.table) start c.args.id false c.args.pen.seen t) (sym c.new.ensures)
    (begun (is_counted g.B.HistoryName.table) start c.args.id c.args.station c.args.pen c.args.traced c.requires.counted c.requires.begins c.requires.pen c.requires.seen)
