use Rattle.cpg_ring.proofs.Steps.{reached}
use Rattle.cpg_ring.proofs.Stores.{reached_stores}
use Rattle.cpg_ring.proofs.Shares.{bounded}
use Rattle.cpg_ring.proofs.Counting.{grows, bounded_at_start}
use Rattle.cpg_ring.proofs.Chances.{has_turn}
use Rattle.cpg_ring.proofs.theorem.bounded_wait.Goals as goal

pub returns-clause-fair : goal.returns-clause-fair
returns-clause-fair c s w v turns h led = bounded s w v (reached s w led) turns h.nodes.0 (reached_stores s w h.nodes.0 led)

pub returns-clause-grows : goal.returns-clause-grows
returns-clause-grows c s w events h led = grows s w events led

pub returns-clause-at_start : goal.returns-clause-at_start
returns-clause-at_start c s w v turns more fair h led few = bounded_at_start s w v turns more fair led (bounded s w v (reached s w led) turns h.nodes.0 (reached_stores s w h.nodes.0 led) fair) few

pub returns-clause-has_turn : goal.returns-clause-has_turn
returns-clause-has_turn c s w t h led = has_turn s w (reached s w led) h.nodes.0 (reached_stores s w h.nodes.0 led) t
