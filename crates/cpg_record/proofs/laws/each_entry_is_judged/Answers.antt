use Rattle.cpg_record.proofs.Denials.{each_entry_is_judged}
use Rattle.cpg_record.proofs.laws.each_entry_is_judged.Goals as goal

pub returns : goal.returns
returns c = each_entry_is_judged
