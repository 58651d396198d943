use Rattle.std.proofs.Common.{◌≡◌, length}
use Rattle.cpg_board.proofs.boards.Board.of.Given as goal

abbrev pub invariant-loop : goal.invariant-loop
invariant-loop l = length l.cells.items ≡ l.counter
