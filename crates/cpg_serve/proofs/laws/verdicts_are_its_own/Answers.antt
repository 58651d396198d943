use Rattle.cpg_serve.proofs.JudgedOnce.{verdicts_are_its_own}
use Rattle.cpg_serve.proofs.laws.verdicts_are_its_own.Goals as goal

pub returns : goal.returns
returns c = verdicts_are_its_own
