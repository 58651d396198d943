use Rattle.cpg_ring.proofs.Steps.{reached, chain, agreement, every_safe, in_order}
use Rattle.cpg_ring.proofs.theorem.every_schedule.Goals as goal

pub returns-clause-chain : goal.returns-clause-chain
returns-clause-chain c s w h led = chain s w (reached s w led)

pub returns-clause-agreement : goal.returns-clause-agreement
returns-clause-agreement c s w h led = agreement s w (reached s w led)

pub returns-clause-once_in_order : goal.returns-clause-once_in_order
returns-clause-once_in_order c s w h led = in_order s w led

pub returns-clause-safe : goal.returns-clause-safe
returns-clause-safe c s w h led = every_safe s w (reached s w led)
