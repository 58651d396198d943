use Rattle.cpg_record.proofs.Lasting.{memberships_are_lasting_joins}
use Rattle.cpg_record.proofs.laws.memberships_are_lasting_joins.Goals as goal

pub returns : goal.returns
returns c = memberships_are_lasting_joins
