use Rattle.std.proofs.Common.{◌≡◌}
use Rattle.cpg_hint.specs.Places.{from_word_at}
use Rattle.cpg_hint.proofs.places.from_word_at.Given as goal

abbrev pub invariant-loop-left : goal.invariant-loop-left
invariant-loop-left l = from_word_at l.initial.left l.line ≡ from_word_at l.left l.rest

abbrev pub decreases-loop-left : goal.decreases-loop-left
decreases-loop-left l = l.left
