use Rattle.cpg_serve.proofs.Lives.{lives_tell}
use Rattle.cpg_serve.proofs.laws.all_that_rings_tell.Goals as goal

pub returns : goal.returns
returns c = lives_tell
