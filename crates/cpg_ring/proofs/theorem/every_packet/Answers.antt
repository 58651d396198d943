use Rattle.cpg_ring.proofs.Fixed.{visit_own}
use Rattle.cpg_ring.proofs.theorem.every_packet.Goals as goal

pub returns : goal.returns
returns c s n r t = visit_own s r n t
