use Rattle.std.proofs.Common.{◌≡◌, length}
use Rattle.cpg_hint.specs.Places.{from_blank}
use Rattle.cpg_hint.proofs.places.from_blank.Given as goal

abbrev pub invariant-loop-rest : goal.invariant-loop-rest
invariant-loop-rest l = from_blank l.line ≡ from_blank l.rest

abbrev pub decreases-loop-rest : goal.decreases-loop-rest
decreases-loop-rest l = length l.rest
