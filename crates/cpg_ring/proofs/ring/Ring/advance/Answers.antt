use Rattle.std.proofs.Common.{IsSome, sym, subst}
use Rattle.cpg_ring.specs.Moves.{next_entry}
use Rattle.cpg_ring.specs.Rings.{RingNode}
use Rattle.cpg_ring.proofs.Rings.{ring_further}
use Rattle.cpg_ring.proofs.ring.Ring.advance.Goals as goal

pub invariant_of-self : goal.invariant_of-self
invariant_of-self c = ring_further _ _ c.self.inside.held _ _ c.self.invariant (subst (λ (x : RingNode). IsSome (next_entry x.state)) (sym c.self.view_is) c.requires) c.advance.ensures
