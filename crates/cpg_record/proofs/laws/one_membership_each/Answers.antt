use Rattle.cpg_record.proofs.Once.{one_membership_each}
use Rattle.cpg_record.proofs.laws.one_membership_each.Goals as goal

pub returns : goal.returns
returns c = one_membership_each
