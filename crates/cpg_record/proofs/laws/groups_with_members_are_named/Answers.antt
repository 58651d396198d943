use Rattle.cpg_record.proofs.Shown.{groups_with_members_are_named}
use Rattle.cpg_record.proofs.laws.groups_with_members_are_named.Goals as goal

pub returns : goal.returns
returns c = groups_with_members_are_named
