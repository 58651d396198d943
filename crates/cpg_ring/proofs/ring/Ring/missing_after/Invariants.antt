use Rattle.std.proofs.Common.{◌≡◌}
use Rattle.std.specs.List.{filter}
use Rattle.cpg_ring.specs.Visits.{up_to}
use Rattle.cpg_ring.specs.Steps.{held_after, lacks}
use Rattle.cpg_ring.proofs.ring.Ring.missing_after.Given as goal

abbrev pub invariant-loop-i : goal.invariant-loop-i
invariant-loop-i l = l.requests.items ≡ filter (lacks (held_after l.self l.seq l.count)) (up_to l.i)
