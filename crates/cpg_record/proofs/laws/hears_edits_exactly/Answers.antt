use Rattle.cpg_record.proofs.Told.{hears_edits_exactly}
use Rattle.cpg_record.proofs.laws.hears_edits_exactly.Goals as goal

pub returns : goal.returns
returns c = hears_edits_exactly
