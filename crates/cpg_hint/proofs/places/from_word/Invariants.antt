use Rattle.std.proofs.Common.{◌≡◌, length}
use Rattle.cpg_hint.specs.Places.{from_word}
use Rattle.cpg_hint.proofs.places.from_word.Given as goal

abbrev pub invariant-loop-rest : goal.invariant-loop-rest
invariant-loop-rest l = from_word l.line ≡ from_word l.rest

abbrev pub decreases-loop-rest : goal.decreases-loop-rest
decreases-loop-rest l = length l.rest
