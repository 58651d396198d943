-- What members have seen begins one front, and then they have seen just that.
use Rattle.std.proofs.Common.{◌≡◌, ℕ, zero, suc, ◌+◌, ◌≤◌, ◌<◌, List, [], ◌∷◌, ◌++◌, length, get_or, set, sym, subst, arith}
use mathlib.Core.List.{IsPrefix}
use Rattle.cpg_world_laws.specs.declared.events.WorldEvent.{WorldEvent}
use Rattle.cpg_history.specs.Members.{MemberValue, Began, HaveSeen}
use Rattle.cpg_history.proofs.Resting.{prefix_then}

-- one member more, and a longer front
pub one_more_began : (ms : List MemberValue) (m : MemberValue) (front longer : List WorldEvent) → Began ms front → IsPrefix front longer → IsPrefix m.seen longer → Began (ms ++ m ∷ []) longer
one_more_began [] m front longer all on one = (one, tt)
one_more_began (x ∷ ms) m front longer all on one = (prefix_then x.seen front longer all.0 on, one_more_began ms m front longer all.1 on one)

-- so many of them have seen the front, and what the others have seen begins it
abbrev pub Caught : ℕ → List MemberValue → List WorldEvent → Type 0
Caught zero ms front = Began ms front
Caught (suc n) [] front = Unit {0}
Caught (suc n) (m ∷ ms) front = (m.seen ≡ front) × Caught n ms front

pub next_begins : (n : ℕ) (ms : List MemberValue) (d : MemberValue) (front : List WorldEvent) → n < length ms → Caught n ms front → IsPrefix (get_or ms n d).seen front
next_begins n [] d front less so_far = absurd (omega (arith, less))
next_begins zero (m ∷ ms) d front less so_far = so_far.0
next_begins (suc n) (m ∷ ms) d front less so_far = next_begins n ms d front (omega (arith, less)) so_far.1

pub caught_next : (n k : ℕ) (ms : List MemberValue) (m : MemberValue) (front : List WorldEvent) → k ≡ n + 1 → m.seen ≡ front → Caught n ms front → Caught k (set ms n m) front
caught_next n zero ms m front is seen so_far = absurd (omega (arith, is))
caught_next zero (suc k) [] m front is seen so_far = tt
caught_next (suc n) (suc k) [] m front is seen so_far = tt
caught_next zero (suc k) (x ∷ ms) m front is seen so_far = let none : k ≡ zero = omega (arith, is) in (seen, subst (λ j. Caught j ms front) (sym none) so_far.1)
caught_next (suc n) (suc k) (x ∷ ms) m front is seen so_far = (so_far.0, caught_next n k ms m front (omega (arith, is)) seen so_far.1)

pub all_caught : (n : ℕ) (ms : List MemberValue) (front : List WorldEvent) → length ms ≤ n → Caught n ms front → HaveSeen ms front
all_caught n [] front past so_far = tt
all_caught zero (x ∷ ms) front past so_far = absurd (omega (arith, past))
all_caught (suc n) (x ∷ ms) front past so_far = (so_far.0, all_caught n ms front (omega (arith, past)) so_far.1)
