use Rattle.cpg_record.proofs.Nexts.{members_stay}
use Rattle.cpg_record.proofs.laws.members_stay.Goals as goal

pub returns : goal.returns
returns c = members_stay
