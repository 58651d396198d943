use Rattle.cpg_ring.proofs.Steps.{reached}
use Rattle.cpg_ring.proofs.Hearing.{catches_up}
use Rattle.cpg_ring.proofs.Stores.{reached_stores}
use Rattle.cpg_ring.proofs.Recovery.{recovers}
use Rattle.cpg_ring.proofs.theorem.no_dead_end.Goals as goal

pub returns-clause-catches_up : goal.returns-clause-catches_up
returns-clause-catches_up c s w h led = catches_up s w (reached s w led)

pub returns-clause-recovers : goal.returns-clause-recovers
returns-clause-recovers c s w done h led low room = recovers s w done h.nodes.0 (reached s w led) (reached_stores s w h.nodes.0 led) low room
