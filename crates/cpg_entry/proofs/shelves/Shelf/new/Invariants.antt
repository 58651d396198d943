use Rattle.std.proofs.Common.{◌≡◌, length}
use Rattle.cpg_entry.proofs.shelves.Shelf.new.Given as goal

abbrev pub invariant-loop : goal.invariant-loop
invariant-loop l = length l.cells.items ≡ l.counter
