use Rattle.cpg_record.proofs.Elsewhere.{others_keep_members}
use Rattle.cpg_record.proofs.laws.others_keep_members.Goals as goal

pub returns : goal.returns
returns c = others_keep_members
