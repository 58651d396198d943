use Rattle.cpg_why.proofs.Conditions.{tells_the_unmet, tells_where}
use Rattle.cpg_why.proofs.Removal.{passed_do_not_match}
use Rattle.cpg_why.proofs.laws.passed_do_not_match.Goals as goal

pub returns : goal.returns
returns c = record { passed = passed_do_not_match; told = tells_where; unmet = tells_the_unmet }
