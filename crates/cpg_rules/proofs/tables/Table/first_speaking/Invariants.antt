use Rattle.std.proofs.Common.{◌≡◌, drop}
use Rattle.std.specs.List.{find}
use Rattle.cpg_rules.specs.Decision.{speaks}
use Rattle.cpg_rules.proofs.tables.Table.first_speaking.Given as goal

abbrev pub invariant-loop-entry : goal.invariant-loop-entry
invariant-loop-entry l = find (speaks l.right l.asker) (drop l.entry-index l.self) ≡ find (speaks l.right l.asker) l.self
