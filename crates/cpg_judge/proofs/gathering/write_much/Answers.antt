use Rattle.cpg_judge.proofs.Behind.{gathers_none}
use Rattle.cpg_judge.proofs.gathering.write_much.Goals as goal

pub returns-then-len-lt-MUCH : goal.returns-then-len-lt-MUCH
returns-then-len-lt-MUCH g c = gathers_none _ _
