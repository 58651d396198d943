use Rattle.cpg_record.proofs.Cuts.{next_is_at_the_cut}
use Rattle.cpg_record.proofs.laws.next_is_at_the_cut.Goals as goal

pub returns : goal.returns
returns c = next_is_at_the_cut
