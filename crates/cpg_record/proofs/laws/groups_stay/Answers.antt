use Rattle.cpg_record.proofs.Nexts.{groups_stay}
use Rattle.cpg_record.proofs.laws.groups_stay.Goals as goal

pub returns : goal.returns
returns c = groups_stay
