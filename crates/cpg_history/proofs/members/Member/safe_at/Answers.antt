use Rattle.std.proofs.Common.{◌≡◌, subst, inr, arith}
use Rattle.cpg_history.specs.Members.{IsAt}
use Rattle.cpg_history.proofs.members.Member.safe_at.Goals as goal

pub returns-then-get-clause-at : goal.returns-then-get-clause-at
returns-then-get-clause-at g c =
    let m = c.self.inside in
    let own : m.id ≡ c.args.node = omega (arith, c.if-get.true, c.get.ensures.value, c.get-2.ensures.value) in
    inr (m.pen.seen, m.station.node, subst (λ n. IsAt g.B.HistoryName.start m.pen.seen n m.station.node) own (c.self.invariant.0.holds c.if-self.false).2, c.safe.ensures)
