use Rattle.cpg_serve.proofs.Lone.{lone_new}
use Rattle.cpg_serve.proofs.Settled.{lone_stays}
use Rattle.cpg_serve.proofs.laws.rings_of_one_stay_so.Goals as goal

pub returns-clause-begins : goal.returns-clause-begins
returns-clause-begins c = lone_new

pub returns-clause-stays : goal.returns-clause-stays
returns-clause-stays c = lone_stays
