use Rattle.std.proofs.Common.{◌≡◌, ◌≤◌, ℕ, length, get_or, None}
use Rattle.cpg_ring.proofs.held.empty_slots.Given as goal

abbrev pub invariant-loop : goal.invariant-loop
invariant-loop l = record {
  count : length l.slots.items ≡ l.counter;
  within : l.counter ≤ 64;
  empty : (i : ℕ) → get_or l.slots.items i None ≡ None;
}
