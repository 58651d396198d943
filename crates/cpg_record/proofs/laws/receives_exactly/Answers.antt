use Rattle.cpg_record.proofs.Told.{receives_exactly}
use Rattle.cpg_record.proofs.laws.receives_exactly.Goals as goal

pub returns : goal.returns
returns c = receives_exactly
