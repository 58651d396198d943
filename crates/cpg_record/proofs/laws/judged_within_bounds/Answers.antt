use Rattle.cpg_record.proofs.Bounded.{judged_within_bounds}
use Rattle.cpg_record.proofs.laws.judged_within_bounds.Goals as goal

pub returns : goal.returns
returns c = judged_within_bounds
