use Rattle.cpg_record.proofs.Shown.{listings_show_members}
use Rattle.cpg_record.proofs.laws.listings_show_members.Goals as goal

pub returns : goal.returns
returns c = listings_show_members
