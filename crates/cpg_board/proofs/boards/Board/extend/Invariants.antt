use Rattle.std.proofs.Common.{◌≡◌, ◌≤◌, length, take, vec_len, vec_capacity}
use Rattle.cpg_board.specs.Noted.{AllKnow, known_of}
use Rattle.cpg_board.proofs.boards.Board.extend.Given as goal

abbrev pub invariant-loop-index : goal.invariant-loop-index
invariant-loop-index l = AllKnow l.notes.items × (known_of l.notes.items ≡ take l.index l.other) × (vec_len l.notes ≡ l.index) × (length l.other ≤ vec_capacity l.notes) × (l.index ≤ length l.other)
