use Rattle.cpg_record.proofs.Changed.{records_list_their_members}
use Rattle.cpg_record.proofs.laws.records_list_their_members.Goals as goal

pub returns : goal.returns
returns c = records_list_their_members
