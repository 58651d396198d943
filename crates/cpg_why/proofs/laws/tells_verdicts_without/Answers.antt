use Rattle.cpg_why.proofs.Under.{tells_under, tells_without}
use Rattle.cpg_why.proofs.laws.tells_verdicts_without.Goals as goal

pub returns : goal.returns
returns c = record { under = tells_under; without = tells_without }
