use Rattle.std.proofs.Common.{ℕ, ◌≤◌}
use Rattle.cpg_ring.specs.States.{Holds}
use Rattle.cpg_ring.proofs.held.Held.holds_above.Given as goal

abbrev pub invariant-loop-i : goal.invariant-loop-i
invariant-loop-i l = (place : ℕ) → place ≤ l.i → Holds l.self.places place → place ≤ l.seq
