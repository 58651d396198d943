use Rattle.std.proofs.Common.{◌≡◌, ◌+◌, drop}
use Rattle.std.specs.List.{position_or_len}
use Rattle.cpg_rules.specs.Decision.{speaks}
use Rattle.cpg_why.proofs.deciding.find_first.Given as goal

abbrev pub invariant-loop-index : goal.invariant-loop-index
invariant-loop-index l = position_or_len (speaks l.right l.asker) l.table ≡ l.index + position_or_len (speaks l.right l.asker) (drop l.index l.table)
