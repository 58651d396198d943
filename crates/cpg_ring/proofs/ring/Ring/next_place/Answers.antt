use Rattle.std.proofs.Common.{subst, IfSome, ◌<◌}
use Rattle.cpg_ring.specs.Moves.{next_entry}
use Rattle.cpg_ring.specs.Rings.{RingNode}
use Rattle.cpg_ring.proofs.Rings.{next_within}
use Rattle.cpg_ring.proofs.ring.Ring.next_place.Goals as goal

pub returns-clause-within : goal.returns-clause-within
returns-clause-within c = subst (λ (x : RingNode). IfSome (next_entry x.state) (λ _. x.state.delivered < x.settings.places)) c.self.view_is (next_within c.self.inside.held.places c.self.inside.held.delivered c.self.inside.settings.places c.self.invariant.within)
