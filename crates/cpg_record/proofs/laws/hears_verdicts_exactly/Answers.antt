use Rattle.cpg_record.proofs.Told.{hears_verdicts_exactly}
use Rattle.cpg_record.proofs.laws.hears_verdicts_exactly.Goals as goal

pub returns : goal.returns
returns c = hears_verdicts_exactly
