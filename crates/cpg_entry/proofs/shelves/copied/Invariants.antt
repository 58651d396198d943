use Rattle.std.proofs.Common.{◌≡◌, take}
use Rattle.cpg_entry.proofs.shelves.copied.Given as goal

abbrev pub invariant-loop-entry : goal.invariant-loop-entry
invariant-loop-entry l = l.block.items ≡ take l.entry-index l.entries
