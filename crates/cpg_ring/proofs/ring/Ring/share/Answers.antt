use Rattle.std.proofs.Common.{sym, subst}
use Rattle.cpg_ring.specs.States.{HeldPlaces, Holds}
use Rattle.cpg_ring.specs.Laws.{AllHeld}
use Rattle.cpg_ring.proofs.ring.Ring.share.Goals as goal

pub invariant_of-self : goal.invariant_of-self
invariant_of-self c = record {
  ring_node = c.self.invariant.ring_node;
  within = λ place held. c.self.invariant.within place (subst (λ (m : HeldPlaces). Holds m place) c.share.ensures.places held);
  delivered = subst (λ (m : HeldPlaces). AllHeld m c.share.new.self.delivered) (sym c.share.ensures.places) (subst (AllHeld c.self.inside.held.places) (sym c.share.ensures.delivered) c.self.invariant.delivered);
  spelled = c.self.invariant.spelled;
}
