use Rattle.std.proofs.Common.{◌≡◌}
use Rattle.cpg_why.specs.Deciding.{passed_rules}
use Rattle.cpg_why.proofs.deciding.find_passed.Given as goal

abbrev pub invariant-loop-index : goal.invariant-loop-index
invariant-loop-index l = l.passed ≡ passed_rules l.right l.asker l.table l.index
