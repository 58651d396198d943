use Rattle.cpg_ring.proofs.Amounts.{visit_is}
use Rattle.cpg_ring.proofs.theorem.every_visit.Goals as goal

pub returns : goal.returns
returns c s n r t = visit_is s n r t
