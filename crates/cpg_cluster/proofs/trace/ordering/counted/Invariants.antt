use Rattle.cpg_cluster.proofs.Ordered.{CountedTo}
use Rattle.cpg_cluster.proofs.trace.ordering.counted.Given as goal

abbrev pub invariant-loop-index : goal.invariant-loop-index
invariant-loop-index l = CountedTo l.entries l.index
