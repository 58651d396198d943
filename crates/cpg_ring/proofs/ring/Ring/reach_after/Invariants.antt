use Rattle.std.proofs.Common.{◌≡◌, ◌+◌, ◌-◌}
use Rattle.cpg_ring.specs.Visits.{held_through, reach}
use Rattle.cpg_ring.specs.Steps.{held_after}
use Rattle.cpg_ring.proofs.ring.Ring.reach_after.Given as goal

abbrev pub invariant-loop-place : goal.invariant-loop-place
invariant-loop-place l = held_through (held_after l.self l.seq l.count) l.place (l.end - l.place) ≡ reach (held_after l.self l.seq l.count) (l.seq + l.count)
