use Rattle.cpg_why.proofs.Heard.{told_by_standing}
use Rattle.cpg_why.proofs.laws.told_by_standing.Goals as goal

pub returns : goal.returns
returns c = told_by_standing
