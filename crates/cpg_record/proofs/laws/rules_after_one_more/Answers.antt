use Rattle.cpg_record.proofs.Growing.{rules_of_push}
use Rattle.cpg_record.proofs.laws.rules_after_one_more.Goals as goal

pub returns : goal.returns
returns c = rules_of_push
