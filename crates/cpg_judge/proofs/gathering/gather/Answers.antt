use Rattle.cpg_judge.proofs.Behind.{gathers_put}
use Rattle.cpg_judge.proofs.gathering.gather.Goals as goal

pub returns : goal.returns
returns g c = λ more is. gathers_put _ _ _ _ more is c.in_ok-extend_from_slice.ensures.items
