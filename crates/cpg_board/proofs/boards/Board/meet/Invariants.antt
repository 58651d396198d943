use Rattle.std.proofs.Common.{◌≡◌, ◌≤◌, length, take}
use Rattle.cpg_board.proofs.boards.Board.meet.Given as goal

abbrev pub invariant-loop-index : goal.invariant-loop-index
invariant-loop-index l = (take l.index l.one ≡ take l.index l.other) × (l.index ≤ length l.one) × (l.index ≤ length l.other)
