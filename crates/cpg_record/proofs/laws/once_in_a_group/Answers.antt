use Rattle.cpg_record.proofs.Once.{once_in_a_group}
use Rattle.cpg_record.proofs.laws.once_in_a_group.Goals as goal

pub returns : goal.returns
returns c = once_in_a_group
