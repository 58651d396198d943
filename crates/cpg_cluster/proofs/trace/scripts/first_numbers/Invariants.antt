use Rattle.cpg_cluster.proofs.Ordered.{NumbersTo}
use Rattle.cpg_cluster.proofs.trace.scripts.first_numbers.Given as goal

abbrev pub invariant-loop-entry : goal.invariant-loop-entry
invariant-loop-entry l = NumbersTo l.script l.numbers.items l.entry-index l.next
