use Rattle.cpg_record.proofs.Once.{group_is_membership}
use Rattle.cpg_record.proofs.laws.group_is_membership.Goals as goal

pub returns : goal.returns
returns c = group_is_membership
