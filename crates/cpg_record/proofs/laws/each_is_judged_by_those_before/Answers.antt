use Rattle.cpg_record.proofs.Told.{each_is_judged_by_those_before}
use Rattle.cpg_record.proofs.laws.each_is_judged_by_those_before.Goals as goal

pub returns : goal.returns
returns c = each_is_judged_by_those_before
