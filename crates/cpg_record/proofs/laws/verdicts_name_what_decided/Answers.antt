use Rattle.cpg_record.proofs.Reasoned.{verdicts_name_what_decided}
use Rattle.cpg_record.proofs.laws.verdicts_name_what_decided.Goals as goal

pub returns : goal.returns
returns c = verdicts_name_what_decided
