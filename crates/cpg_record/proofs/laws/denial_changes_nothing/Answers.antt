use Rattle.cpg_record.proofs.Denials.{denial_changes_nothing}
use Rattle.cpg_record.proofs.laws.denial_changes_nothing.Goals as goal

pub returns : goal.returns
returns c = denial_changes_nothing
