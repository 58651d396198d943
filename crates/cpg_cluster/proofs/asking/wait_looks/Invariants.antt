use Rattle.std.proofs.Common.{◌≡◌}
use Rattle.cpg_cluster.specs.Answers.{GoesOn}
use Rattle.cpg_cluster.proofs.asking.wait_looks.Given as goal

abbrev pub invariant-loop-number : goal.invariant-loop-number
invariant-loop-number g l = GoesOn l.initial.session l.session × (l.polls ≡ l.number)
