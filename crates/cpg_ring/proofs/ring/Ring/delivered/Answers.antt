use Rattle.std.proofs.Common.{subst}
use Rattle.cpg_ring.specs.Laws.{AllHeld}
use Rattle.cpg_ring.specs.Rings.{RingNode}
use Rattle.cpg_ring.proofs.ring.Ring.delivered.Goals as goal

pub returns-clause-held : goal.returns-clause-held
returns-clause-held c = subst (λ (x : RingNode). AllHeld x.state.held c.delivered.result) c.self.view_is c.delivered.ensures.held
