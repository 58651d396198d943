-- the script of stations of all nodes that lost none is the whole history
use Rattle.std.proofs.Common.{◌≡◌, ◌≢◌, ◌==◌, if◌then◌else◌, ℕ, zero, suc, ◌+◌, ◌≤◌, ◌<◌, ◌%◌, ◌^◌, Bool, true, false, true≢false, ◌||◌, is_some, List, [], ◌∷◌, ◌++◌, length, map, drop, get_or, Option, Some, None, refl, sym, ap, ◌∙◌, subst, arith}
use Rattle.std.specs.List.{AllByRecursion, flat_map, list_any}
use Rattle.std.specs.List.Sorted.{IsPermutation, IsNonDecreasingBy}
use Rattle.std.specs.Prelude.{sum_by}
use Rattle.std.proofs.lemmas.Bool.Decides.{nat_tests}
use Rattle.std.proofs.lemmas.List.{length-map, map-append}
use Rattle.std.proofs.lemmas.List.Sums.{sum_by-cons}
use Rattle.std.proofs.lemmas.List.Sorted.{IsPermutation-refl, IsPermutation-trans, IsPermutation-cons, IsPermutation-middle, IsPermutation-map, IsPermutation-append_right, sum_by-IsPermutation}
use Rattle.cpg_world_laws.specs.declared.events.WorldEvent.{WorldEvent}
use Rattle.cpg_world_laws.specs.Worlds.{WorldValue, node_in}
use Rattle.cpg_history.specs.Members.{MemberValue}
use Rattle.cpg_history.specs.declared.traces.Recorded.{Recorded}
use Rattle.cpg_history.specs.Traces.{IsTraceOf, recorded_stamps, stamps_of}
use Rattle.cpg_cluster.specs.TraceScripts.{HaveNodesOf, HaveTraces, IsScript, counted, lines_of_all, is_cut, members_of}
use Rattle.cpg_cluster.proofs.Ordered.{counted_same}

-- so many numbers, from one on
abbrev up : ℕ → ℕ → List ℕ
up k zero = []
up k (suc n) = k ∷ up (suc k) n

abbrev one : ℕ → ℕ → ℕ
one y z = if z == y then 1 else 0

one_same : (y z : ℕ) → z ≡ y → one y z ≡ 1
one_same y z is = let test : (z == y) ≡ true = grind (arith, nat_tests) in ap (λ t. if t then 1 else 0) test

one_other : (y z : ℕ) → z ≢ y → one y z ≡ 0
one_other y z not = let test : (z == y) ≡ false = grind (arith, nat_tests) in ap (λ t. if t then 1 else 0) test

-- how often a number stands in a list
abbrev times : ℕ → List ℕ → ℕ
times y xs = sum_by (one y) xs

times_here : (y z : ℕ) (xs : List ℕ) → z ≡ y → times y (z ∷ xs) ≡ suc (times y xs)
times_here y z xs is = let more = sum_by-cons (one y) z xs in let here = one_same y z is in omega (arith, more, here)

times_there : (y z : ℕ) (xs : List ℕ) → z ≢ y → times y (z ∷ xs) ≡ times y xs
times_there y z xs not = let more = sum_by-cons (one y) z xs in let here = one_other y z not in omega (arith, more, here)

-- a number is another or not
by_number : (A : Type 0) (z y : ℕ) → (z ≡ y → A) → (z ≢ y → A) → A
by_number A z y same apart = by_test (z == y) refl
  where
    by_test : (t : Bool) → (z == y) ≡ t → A
    by_test true is = same (grind (arith, nat_tests))
    by_test false is = apart (grind (arith, nat_tests))

up_above : (k n y : ℕ) → 1 ≤ times y (up k n) → k ≤ y
up_above k zero y some = absurd (omega (arith, some))
up_above k (suc n) y some = by_number (k ≤ y) k y (λ is. omega (arith, is)) (λ not. let more = up_above (suc k) n y (subst (λ t. 1 ≤ t) (times_there y k (up (suc k) n) not) some) in omega (arith, more))

abbrev Rises : List ℕ → Type 0
Rises [] = Unit {0}
Rises (x ∷ xs) = AllByRecursion (λ z. x ≤ z) xs × Rises xs

least : (x y : ℕ) (xs : List ℕ) → AllByRecursion (λ z. x ≤ z) xs → 1 ≤ times y xs → x ≤ y
least x y [] all some = absurd (omega (arith, some))
least x y (z ∷ xs) all some = let low = all.0 in by_number (x ≤ y) z y (λ is. omega (arith, is, low)) (λ not. least x y xs all.1 (subst (λ t. 1 ≤ t) (times_there y z xs not) some))

-- what ascends, and has each of so many numbers once, is those
is_up : (xs : List ℕ) (k n : ℕ) → Rises xs → ((y : ℕ) → times y xs ≡ times y (up k n)) → xs ≡ up k n
is_up [] k zero rises same = refl
is_up [] k (suc n) rises same = let a = same k in let b = times_here k k (up (suc k) n) refl in absurd (omega (arith, a, b))
is_up (x ∷ xs) k zero rises same = let a = same x in let b = times_here x x xs refl in absurd (omega (arith, a, b))
is_up (x ∷ xs) k (suc n) rises same =
    let there = same x in
    let once = times_here x x xs refl in
    let low : k ≤ x = up_above k (suc n) x (omega (arith, there, once)) in
    let high : x ≤ k = by_number (x ≤ k) x k (λ is. omega (arith, is)) (λ not.
    let mine = times_there k x xs not in
    let its = same k in
    let first = times_here k k (up (suc k) n) refl in
    least x k xs rises.0 (omega (arith, mine, its, first))) in
    let is : x ≡ k = omega (arith, low, high) in
    let rest : xs ≡ up (suc k) n = is_up xs (suc k) n rises.1 (λ y.
    let both = same y in
    let left = sum_by-cons (one y) x xs in
    let right = sum_by-cons (one y) k (up (suc k) n) in
    let alike : one y x ≡ one y k = ap (one y) is in
    omega (arith, both, left, right, alike)) in
    ap (λ z. z ∷ xs) is ∙ ap (λ l. k ∷ l) rest

-- the stamps of entries in order ascend
rises_by : (rs : List Recorded) → IsNonDecreasingBy (λ (r : Recorded). r.stamp) rs → Rises (map (λ (r : Recorded). r.stamp) rs)
rises_by [] ascend = tt
rises_by (r ∷ rs) ascend = (above rs (λ j d less. ascend 0 (suc j) d (omega arith) (omega (arith, less))), rises_by rs (λ i j d before less. ascend (suc i) (suc j) d (omega (arith, before)) (omega (arith, less))))
  where
    above : (xs : List Recorded) → ((j : ℕ) (d : Recorded) → j < length xs → r.stamp ≤ (get_or xs j d).stamp) → AllByRecursion (λ z. r.stamp ≤ z) (map (λ (r : Recorded). r.stamp) xs)
    above [] each = tt
    above (x ∷ xs) each = (each 0 x (omega arith), above xs (λ j d less. each (suc j) d (omega (arith, less))))

-- entries whose stamps are the numbers from one on are all counted
all_counted : (k : ℕ) (rs : List Recorded) → map (λ (r : Recorded). r.stamp) rs ≡ up k (length rs) → counted k rs ≡ rs
all_counted k [] same = refl
all_counted k (r ∷ rs) same = counted_same k r rs (ap (λ l. get_or l 0 0) same) ∙ ap (λ l. r ∷ l) (all_counted (suc k) rs (ap (λ l. drop 1 l) same))

-- the stamps of events, of which the first comes after so many others
abbrev stamps_from : ℕ → List WorldEvent → List ℕ
stamps_from k [] = []
stamps_from k (e ∷ es) = k % 2 ^ 64 ∷ stamps_from (suc k) es

are_up : (k : ℕ) (es : List WorldEvent) → k + length es ≤ 2 ^ 64 → stamps_from k es ≡ up k (length es)
are_up k [] short = refl
are_up k (e ∷ es) short =
    let small : k % 2 ^ 64 ≡ k = omega (arith, short) in
    ap (λ z. z ∷ stamps_from (suc k) es) small ∙ ap (λ l. k ∷ l) (are_up (suc k) es (omega (arith, short)))

-- the stamps of the events of each member's node
abbrev stamps_by : List MemberValue → ℕ → List WorldEvent → List ℕ
stamps_by ms k es = flat_map (λ (m : MemberValue). stamps_of m.id k es) ms

module _ (e : WorldEvent) (es : List WorldEvent) (k : ℕ) where
  abbrev more : Bool → ℕ → List ℕ
  more t n = if t then k % 2 ^ 64 ∷ stamps_of n (suc k) es else stamps_of n (suc k) es

  -- where the event's node is none of theirs
  none_more : (ms : List MemberValue) → members_of (node_in e) ms ≡ 0 → stamps_by ms k (e ∷ es) ≡ stamps_by ms (suc k) es
  none_more [] none = refl
  none_more (m ∷ ms) none = by_test (none_more ms) (node_in e == m.id) none
    where
      by_test : (members_of (node_in e) ms ≡ 0 → stamps_by ms k (e ∷ es) ≡ stamps_by ms (suc k) es) → (t : Bool) → (if t then suc (members_of (node_in e) ms) else members_of (node_in e) ms) ≡ 0 → more t m.id ++ stamps_by ms k (e ∷ es) ≡ stamps_of m.id (suc k) es ++ stamps_by ms (suc k) es
      by_test rest true is = absurd (omega (arith, is))
      by_test rest false is = ap (λ l. stamps_of m.id (suc k) es ++ l) (rest is)

  -- where it is that of one of them
  one_more : (ms : List MemberValue) → members_of (node_in e) ms ≡ 1 → IsPermutation (stamps_by ms k (e ∷ es)) (k % 2 ^ 64 ∷ stamps_by ms (suc k) es)
  one_more [] once = absurd (omega (arith, once))
  one_more (m ∷ ms) once = by_test (one_more ms) (node_in e == m.id) once
    where
      rest : List ℕ
      rest = stamps_by ms (suc k) es

      by_test : (members_of (node_in e) ms ≡ 1 → IsPermutation (stamps_by ms k (e ∷ es)) (k % 2 ^ 64 ∷ rest)) → (t : Bool) → (if t then suc (members_of (node_in e) ms) else members_of (node_in e) ms) ≡ 1 → IsPermutation (more t m.id ++ stamps_by ms k (e ∷ es)) (k % 2 ^ 64 ∷ stamps_of m.id (suc k) es ++ rest)
      by_test others true is =
          let same : stamps_by ms k (e ∷ es) ≡ rest = none_more ms (omega (arith, is)) in
          subst (λ l. IsPermutation (k % 2 ^ 64 ∷ stamps_of m.id (suc k) es ++ l) (k % 2 ^ 64 ∷ stamps_of m.id (suc k) es ++ rest)) (sym same) (IsPermutation-refl (k % 2 ^ 64 ∷ stamps_of m.id (suc k) es ++ rest))
      by_test others false is =
          IsPermutation-trans (stamps_of m.id (suc k) es ++ stamps_by ms k (e ∷ es)) (stamps_of m.id (suc k) es ++ k % 2 ^ 64 ∷ rest) (k % 2 ^ 64 ∷ stamps_of m.id (suc k) es ++ rest)
          (IsPermutation-append_right (stamps_of m.id (suc k) es) (stamps_by ms k (e ∷ es)) (k % 2 ^ 64 ∷ rest) (others is))
          (IsPermutation-middle (stamps_of m.id (suc k) es) (k % 2 ^ 64) rest)

no_stamps : (ms : List MemberValue) (k : ℕ) → stamps_by ms k [] ≡ []
no_stamps [] k = refl
no_stamps (m ∷ ms) k = no_stamps ms k

all_stamps : (ms : List MemberValue) (k : ℕ) (es : List WorldEvent) → HaveNodesOf ms es → IsPermutation (stamps_by ms k es) (stamps_from k es)
all_stamps ms k [] all = subst (λ l. IsPermutation l []) (sym (no_stamps ms k)) (IsPermutation-refl [])
all_stamps ms k (e ∷ es) all =
    IsPermutation-trans (stamps_by ms k (e ∷ es)) (k % 2 ^ 64 ∷ stamps_by ms (suc k) es) (k % 2 ^ 64 ∷ stamps_from (suc k) es)
    (one_more e es k ms all.0) (IsPermutation-cons (k % 2 ^ 64) (stamps_by ms (suc k) es) (stamps_from (suc k) es) (all_stamps ms (suc k) es all.1))

-- what was recorded, where none was lost, is all that happened
none_lost : (o : Option ℕ) → is_some o ≡ false → o ≡ None
none_lost None is = refl
none_lost (Some at) is = absurd (true≢false is)

neither : (a b : Bool) → (a || b) ≡ false → (a ≡ false) × (b ≡ false)
neither true b is = absurd (true≢false is)
neither false b is = (refl, is)

recorded_all : (start : WorldValue) (seen : List WorldEvent) (ms : List MemberValue) → HaveTraces start seen ms → is_cut ms ≡ false → map (λ (r : Recorded). r.stamp) (lines_of_all ms) ≡ stamps_by ms 0 seen
recorded_all start seen [] traces whole = refl
recorded_all start seen (m ∷ ms) traces whole =
    let both = neither (is_some m.trace.lost) (is_cut ms) whole in
    map-append (λ (r : Recorded). r.stamp) m.trace.entries (lines_of_all ms)
    ∙ (ap (λ l. l ++ map (λ (r : Recorded). r.stamp) (lines_of_all ms)) (traces.0.whole (none_lost m.trace.lost both.0)) ∙ ap (λ l. stamps_of m.id 0 seen ++ l) (recorded_all start seen ms traces.1 both.1))

pub is_whole : (start : WorldValue) (seen : List WorldEvent) (ms : List MemberValue) (script : List Recorded) → length seen < 2 ^ 64 → HaveTraces start seen ms → is_cut ms ≡ false → HaveNodesOf ms seen → IsScript (lines_of_all ms) script → length script ≡ length seen
is_whole start seen ms script short traces whole nodes is =
    let stamp : Recorded → ℕ = λ r. r.stamp in
    let N = length seen in
    let stamps : IsPermutation (map stamp (lines_of_all ms)) (up 0 N) =
    subst (λ l. IsPermutation (map stamp (lines_of_all ms)) l) (are_up 0 seen (omega (arith, short)))
    (subst (λ l. IsPermutation l (stamps_from 0 seen)) (sym (recorded_all start seen ms traces whole)) (all_stamps ms 0 seen nodes)) in
    let ordered = IsPermutation-map stamp (lines_of_all ms) is.ordered is.same in
    let same : map stamp is.ordered ≡ up 0 N = is_up (map stamp is.ordered) 0 N (rises_by is.ordered is.ascend) (λ y.
    sum_by-IsPermutation (one y) (map stamp (lines_of_all ms)) (map stamp is.ordered) ordered ∙ sym (sum_by-IsPermutation (one y) (map stamp (lines_of_all ms)) (up 0 N) stamps)) in
    let long : length is.ordered ≡ N = sym (length-map is.ordered stamp) ∙ (ap length same ∙ length_up 0 N) in
    ap length (is.front ∙ all_counted 0 is.ordered (same ∙ ap (up 0) (sym long))) ∙ long
  where
    length_up : (k n : ℕ) → length (up k n) ≡ n
    length_up k zero = refl
    length_up k (suc n) = ap suc (length_up (suc k) n)
