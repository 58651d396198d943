use Rattle.cpg_record.proofs.Why.{denied_listings_name_their_rule}
use Rattle.cpg_record.proofs.laws.denied_listings_name_their_rule.Goals as goal

pub returns : goal.returns
returns c = denied_listings_name_their_rule
