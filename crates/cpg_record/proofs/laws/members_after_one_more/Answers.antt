use Rattle.cpg_record.proofs.Growing.{members_push}
use Rattle.cpg_record.proofs.laws.members_after_one_more.Goals as goal

pub returns : goal.returns
returns c = members_push
