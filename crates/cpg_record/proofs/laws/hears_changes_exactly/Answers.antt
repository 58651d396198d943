use Rattle.cpg_record.proofs.Changed.{hears_changes_exactly}
use Rattle.cpg_record.proofs.laws.hears_changes_exactly.Goals as goal

pub returns : goal.returns
returns c = hears_changes_exactly
