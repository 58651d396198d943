use Rattle.cpg_serve.proofs.Gone.{lost_is_gone, nothing_after}
use Rattle.cpg_serve.proofs.laws.nothing_after_the_end.Goals as goal

pub returns-clause-lost : goal.returns-clause-lost
returns-clause-lost c = lost_is_gone

pub returns-clause-run : goal.returns-clause-run
returns-clause-run c = nothing_after
