use Rattle.std.proofs.Common.{◌+◌, subst}
use Rattle.cpg_ring.specs.Laws.{NoneAbove}
use Rattle.cpg_ring.specs.Rings.{RingNode}
use Rattle.cpg_ring.proofs.ring.Ring.last_place.Goals as goal

pub returns-clause-above : goal.returns-clause-above
returns-clause-above c = subst (λ (x : RingNode). NoneAbove x.state.held (x.state.delivered + 64)) c.self.view_is (subst (λ n. NoneAbove c.self.inside.held.places (n + 64)) c.delivered.ensures.value c.delivered.ensures.window)
