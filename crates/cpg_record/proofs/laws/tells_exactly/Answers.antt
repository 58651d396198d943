use Rattle.cpg_record.proofs.Nexts.{tells_exactly}
use Rattle.cpg_record.proofs.laws.tells_exactly.Goals as goal

pub returns : goal.returns
returns c = tells_exactly
