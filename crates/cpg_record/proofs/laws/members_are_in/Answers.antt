use Rattle.cpg_record.proofs.Elsewhere.{members_are_in}
use Rattle.cpg_record.proofs.laws.members_are_in.Goals as goal

pub returns : goal.returns
returns c = members_are_in
