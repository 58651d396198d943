use Rattle.cpg_why.proofs.Removal.{removal_tells}
use Rattle.cpg_why.proofs.laws.removal_tells_what_decides.Goals as goal

pub returns : goal.returns
returns c = removal_tells
