use Rattle.cpg_serve.proofs.Placed.{verdicts_in_order}
use Rattle.cpg_serve.proofs.laws.verdicts_in_order.Goals as goal

pub returns : goal.returns
returns c = verdicts_in_order c.each_entry_is_judged.ensures c.every_run.ensures.world c.every_run.ensures.run c.verdicts_are_its_own.ensures
