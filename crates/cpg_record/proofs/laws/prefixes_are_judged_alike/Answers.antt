use Rattle.cpg_record.proofs.Denials.{prefixes_are_judged_alike}
use Rattle.cpg_record.proofs.laws.prefixes_are_judged_alike.Goals as goal

pub returns : goal.returns
returns c = prefixes_are_judged_alike
