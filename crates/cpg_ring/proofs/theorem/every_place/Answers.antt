use Rattle.cpg_ring.proofs.Fixed.{data_stays, visit_stays}
use Rattle.cpg_ring.proofs.theorem.every_place.Goals as goal

pub returns-clause-data : goal.returns-clause-data
returns-clause-data c s r p none = data_stays s r p none

pub returns-clause-visit : goal.returns-clause-visit
returns-clause-visit c s n r t none = visit_stays s n r t none
