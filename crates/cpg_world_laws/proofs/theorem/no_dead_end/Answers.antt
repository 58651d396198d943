use Rattle.cpg_world_laws.proofs.Recovering.{catches_up, recovers}
use Rattle.cpg_world_laws.proofs.theorem.no_dead_end.Goals as goal

pub returns-clause-catches_up : goal.returns-clause-catches_up
returns-clause-catches_up c w = catches_up (record { agreement = c.every_schedule.ensures.agreement; catches_up = c.no_dead_end.ensures.catches_up; recovers = c.no_dead_end.ensures.recovers }) w

pub returns-clause-recovers : goal.returns-clause-recovers
returns-clause-recovers c w = recovers (record { agreement = c.every_schedule.ensures.agreement; catches_up = c.no_dead_end.ensures.catches_up; recovers = c.no_dead_end.ensures.recovers }) w
