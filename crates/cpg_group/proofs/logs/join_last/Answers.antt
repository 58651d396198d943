use Rattle.cpg_group.proofs.Stops.{last_none, last_some}
use Rattle.cpg_group.proofs.logs.join_last.Goals as goal

pub returns-in-None-clause-group : goal.returns-in-None-clause-group
returns-in-None-clause-group c = λ rs conn are. last_none rs conn c.args.log.now are c.in-None.ensures.value

pub returns-in-Some-clause-early : goal.returns-in-Some-clause-early
returns-in-Some-clause-early c = λ rs conn are. (last_some rs conn c.args.log.now c.in-Some.stop.now are c.in-Some.ensures.value).0

pub returns-in-Some-clause-group : goal.returns-in-Some-clause-group
returns-in-Some-clause-group c = λ rs conn are. (last_some rs conn c.args.log.now c.in-Some.stop.now are c.in-Some.ensures.value).1
