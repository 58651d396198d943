use Rattle.cpg_record.proofs.Ordered.{told_in_order}
use Rattle.cpg_record.proofs.laws.told_in_order.Goals as goal

pub returns : goal.returns
returns c = told_in_order
