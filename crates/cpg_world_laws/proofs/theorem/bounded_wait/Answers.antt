use Rattle.cpg_world_laws.proofs.Bounding.{bounded, grows, at_start, has_turn}
use Rattle.cpg_world_laws.proofs.theorem.bounded_wait.Goals as goal

pub returns-clause-fair : goal.returns-clause-fair
returns-clause-fair c w v turns = bounded (record { agreement = c.every_schedule.ensures.agreement; fair = c.bounded_wait.ensures.fair; grows = c.bounded_wait.ensures.grows; at_start = c.bounded_wait.ensures.at_start; has_turn = c.bounded_wait.ensures.has_turn }) w v turns

pub returns-clause-grows : goal.returns-clause-grows
returns-clause-grows c w events = grows (record { agreement = c.every_schedule.ensures.agreement; fair = c.bounded_wait.ensures.fair; grows = c.bounded_wait.ensures.grows; at_start = c.bounded_wait.ensures.at_start; has_turn = c.bounded_wait.ensures.has_turn }) w events

pub returns-clause-at_start : goal.returns-clause-at_start
returns-clause-at_start c w v turns more led = at_start (record { agreement = c.every_schedule.ensures.agreement; fair = c.bounded_wait.ensures.fair; grows = c.bounded_wait.ensures.grows; at_start = c.bounded_wait.ensures.at_start; has_turn = c.bounded_wait.ensures.has_turn }) w v turns more led

pub returns-clause-has_turn : goal.returns-clause-has_turn
returns-clause-has_turn c w t = has_turn (record { agreement = c.every_schedule.ensures.agreement; fair = c.bounded_wait.ensures.fair; grows = c.bounded_wait.ensures.grows; at_start = c.bounded_wait.ensures.at_start; has_turn = c.bounded_wait.ensures.has_turn }) w t
