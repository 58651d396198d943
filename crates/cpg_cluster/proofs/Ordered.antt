-- what was recorded, in the order of its stamps
use Rattle.std.proofs.Common.{◌≡◌, ◌≢◌, ℕ, zero, suc, ◌+◌, ◌%◌, ◌^◌, ◌<◌, ◌≤◌, nat_lt, Bool, true, false, List, [], ◌∷◌, ◌++◌, length, take, drop, get_or, slice_get, Some, refl, sym, ap, ◌∙◌, subst, arith, append_assoc, append-nil, length-append}
use Rattle.std.proofs.Math.Nat.{mod-add-mod}
use Rattle.std.proofs.lemmas.List.{take_all}
use Rattle.cpg_board.proofs.Known.{take_next}
use Rattle.std.specs.Prelude.{◌==◌, if◌then◌else◌}
use Rattle.std.specs.List.{AllByRecursion}
use Rattle.std.proofs.lemmas.Bool.Decides.{nat_tests}
use Rattle.std.proofs.lemmas.Option.{none-some, same_Some}
use Rattle.cpg_history.specs.declared.traces.Recorded.{Recorded}
use Rattle.cpg_cluster.specs.TraceScripts.{AreFirstNumbers, counted, sent_by, first_number}

-- each counted entry has the next stamp
pub stamp_at : (k : ℕ) (rs : List Recorded) (i : ℕ) (r : Recorded) → slice_get (counted k rs) i ≡ Some r → r.stamp ≡ k + i
stamp_at k [] i r at = absurd (none-some r at)
stamp_at k (x ∷ rs) i r at = by_test (λ j there. stamp_at (suc k) rs j r there) (x.stamp == k) refl i at
  where
    by_test : ((j : ℕ) → slice_get (counted (suc k) rs) j ≡ Some r → r.stamp ≡ suc k + j) → (t : Bool) → (x.stamp == k) ≡ t → (j : ℕ) → slice_get (if t then x ∷ counted (suc k) rs else []) j ≡ Some r → r.stamp ≡ k + j
    by_test later false not j at = absurd (none-some r at)
    by_test later true is zero at =
        let same : x.stamp ≡ k = grind (arith, nat_tests) in
        let here : x.stamp ≡ r.stamp = ap (λ (y : Recorded). y.stamp) (same_Some x r at) in
        omega (arith, same, here)
    by_test later true is (suc j) at = let next = later j at in omega (arith, next)

-- what is so of all entries is so of those that are counted
pub all_counted : (P : Recorded → Type 0) (k : ℕ) (rs : List Recorded) → AllByRecursion P rs → AllByRecursion P (counted k rs)
all_counted P k [] all = tt
all_counted P k (x ∷ rs) all = by_test (all_counted P (suc k) rs all.1) (x.stamp == k)
  where
    by_test : AllByRecursion P (counted (suc k) rs) → (t : Bool) → AllByRecursion P (if t then x ∷ counted (suc k) rs else [])
    by_test later false = tt
    by_test later true = (all.0, later)

pub all_at : {X : Type 0} (P : X → Type 0) (xs : List X) (i : ℕ) (x : X) → AllByRecursion P xs → slice_get xs i ≡ Some x → P x
all_at P [] i x all at = absurd (none-some x at)
all_at P (y ∷ xs) zero x all at = subst P (same_Some y x at) all.0
all_at P (y ∷ xs) (suc i) x all at = all_at P xs i x all.1 at

-- how many frames two lists of entries sent
pub sent_by_both : (xs ys : List Recorded) → sent_by (xs ++ ys) ≡ sent_by xs + sent_by ys
sent_by_both [] ys = omega arith
sent_by_both (x ∷ xs) ys = let more = sent_by_both xs ys in omega (arith, more)

-- what stands behind an index
pub drop_at : {X : Type 0} (xs : List X) (i : ℕ) (x : X) → slice_get xs i ≡ Some x → drop i xs ≡ x ∷ drop (suc i) xs
drop_at [] i x at = absurd (none-some x at)
drop_at (y ∷ xs) zero x at = ap (λ z. z ∷ xs) (same_Some y x at)
drop_at (y ∷ xs) (suc i) x at = drop_at xs i x at

pub counted_same : (k : ℕ) (r : Recorded) (rs : List Recorded) → r.stamp ≡ k → counted k (r ∷ rs) ≡ r ∷ counted (suc k) rs
counted_same k r rs is = let test : (r.stamp == k) ≡ true = grind (arith, nat_tests) in ap (λ t. if t then r ∷ counted (suc k) rs else []) test

counted_other : (k : ℕ) (r : Recorded) (rs : List Recorded) → r.stamp ≢ k → counted k (r ∷ rs) ≡ []
counted_other k r rs not = let test : (r.stamp == k) ≡ false = grind (arith, nat_tests) in ap (λ t. if t then r ∷ counted (suc k) rs else []) test

-- the entries up to an index are counted
abbrev pub CountedTo : List Recorded → ℕ → Type 0
CountedTo rs i = take i rs ++ counted i (drop i rs) ≡ counted 0 rs

pub counted_next : (rs : List Recorded) (i k : ℕ) (r : Recorded) → slice_get rs i ≡ Some r → r.stamp ≡ i → k ≡ i + 1 → CountedTo rs i → CountedTo rs k
counted_next rs i k r at is next so_far =
    let k_is : k ≡ suc i = omega (arith, next) in
    subst (CountedTo rs) (sym k_is)
    (ap (λ l. l ++ counted (suc i) (drop (suc i) rs)) (take_next rs i r at)
    ∙ (append_assoc (take i rs) (r ∷ []) (counted (suc i) (drop (suc i) rs))
    ∙ (ap (λ l. take i rs ++ l) (sym (ap (counted i) (drop_at rs i r at) ∙ counted_same i r (drop (suc i) rs) is)) ∙ so_far)))

pub counted_stop : (rs : List Recorded) (i : ℕ) (r : Recorded) → slice_get rs i ≡ Some r → r.stamp ≢ i → CountedTo rs i → take i rs ≡ counted 0 rs
counted_stop rs i r at not so_far =
    sym (append-nil (take i rs)) ∙ (ap (λ l. take i rs ++ l) (sym (ap (counted i) (drop_at rs i r at) ∙ counted_other i r (drop (suc i) rs) not)) ∙ so_far)

drop_none : (j : ℕ) → ◌≡◌ {A = List Recorded} (drop j []) []
drop_none zero = refl
drop_none (suc j) = refl

pub counted_end : (rs : List Recorded) (i n : ℕ) → n ≡ length rs → length rs ≤ i → CountedTo rs i → take n rs ≡ counted 0 rs
counted_end rs i n is past so_far =
    ap (λ k. take k rs) is ∙ (take_length rs ∙ (sym (take_all i rs past) ∙ (sym (append-nil (take i rs)) ∙ (ap (λ l. take i rs ++ counted i l) (sym (drop_all i rs past)) ∙ so_far))))
  where
    take_length : (l : List Recorded) → take (length l) l ≡ l
    take_length [] = refl
    take_length (x ∷ l) = ap (λ m. x ∷ m) (take_length l)

    drop_all : (j : ℕ) (l : List Recorded) → length l ≤ j → drop j l ≡ []
    drop_all j [] past = drop_none j
    drop_all zero (x ∷ l) past = absurd (omega (arith, past))
    drop_all (suc j) (x ∷ l) past = drop_all j l (omega (arith, past))

-- the first numbers so far, and the next
pub record NumbersTo (script : List Recorded) (numbers : List ℕ) (i next : ℕ) : Type 0 where
  pub many : length numbers ≡ i
  pub each : (k : ℕ) → k < i → slice_get numbers k ≡ Some (first_number script k)
  pub ahead : next ≡ first_number script i

last_or_before : {X : Type 0} (xs : List X) (x : X) (k : ℕ) → k ≡ length xs → slice_get (xs ++ x ∷ []) k ≡ Some x
last_or_before [] x zero is = refl
last_or_before [] x (suc k) is = absurd (omega (arith, is))
last_or_before (y ∷ xs) x zero is = absurd (omega (arith, is))
last_or_before (y ∷ xs) x (suc k) is = last_or_before xs x k (omega (arith, is))

before_last : {X : Type 0} (xs : List X) (x : X) (k : ℕ) → k < length xs → slice_get (xs ++ x ∷ []) k ≡ slice_get xs k
before_last [] x k less = absurd (omega (arith, less))
before_last (y ∷ xs) x zero less = refl
before_last (y ∷ xs) x (suc k) less = before_last xs x k (omega (arith, less))

-- the numbers with the next behind them
pub pushed : (script : List Recorded) (numbers : List ℕ) (i next : ℕ) → NumbersTo script numbers i next → (k : ℕ) → k ≤ i → slice_get (numbers ++ next ∷ []) k ≡ Some (first_number script k)
pushed script numbers i next so_far k within = by_test (nat_lt k i) refl
  where
    by_test : (t : Bool) → nat_lt k i ≡ t → slice_get (numbers ++ next ∷ []) k ≡ Some (first_number script k)
    by_test true below =
        let many = so_far.many in
        let less : k < i = grind (arith, nat_tests) in
        before_last numbers next k (omega (arith, less, many)) ∙ so_far.each k less
    by_test false not =
        let many = so_far.many in
        let same : k ≡ i = grind (arith, nat_tests) in
        last_or_before numbers next k (omega (arith, same, many)) ∙ ap (λ n. Some n) (so_far.ahead ∙ ap (first_number script) (sym same))

pub numbers_next : (script : List Recorded) (numbers : List ℕ) (i j next after : ℕ) (r : Recorded) → slice_get script i ≡ Some r → j ≡ i + 1 → after ≡ (next + r.sent) % 2 ^ 64 → NumbersTo script numbers i next → NumbersTo script (numbers ++ next ∷ []) j after
numbers_next script numbers i j next after r at is wraps so_far = record {
  many = let long = length-append numbers (next ∷ []) in let many = so_far.many in omega (arith, long, many, is);
  each = λ k less. pushed script numbers i next so_far k (omega (arith, less, is));
  ahead =
      let j_is : j ≡ suc i = omega (arith, is) in
      let more : sent_by (take (suc i) script) ≡ sent_by (take i script) + (r.sent + 0) = ap sent_by (take_next script i r at) ∙ sent_by_both (take i script) (r ∷ []) in
      let sum : (2 + sent_by (take i script)) + r.sent ≡ 2 + sent_by (take (suc i) script) = omega (arith, more) in
      wraps ∙ (ap (λ n. (n + r.sent) % 2 ^ 64) so_far.ahead ∙ (mod-add-mod (2 + sent_by (take i script)) (2 ^ 64) r.sent ∙ (ap (λ n. n % 2 ^ 64) sum ∙ ap (first_number script) (sym j_is))));
}

-- the item of an index that there is
pub item_at : {X : Type 0} (xs : List X) (i : ℕ) (x : X) → i < length xs → get_or xs i x ≡ x → slice_get xs i ≡ Some x
item_at [] i x less is = absurd (omega (arith, less))
item_at (y ∷ xs) zero x less is = ap (λ z. Some z) is
item_at (y ∷ xs) (suc i) x less is = item_at xs i x (omega (arith, less)) is

-- all numbers, with that of the next frame behind them
pub numbers_whole : (script : List Recorded) (numbers : List ℕ) (i next : ℕ) → i ≡ length script → NumbersTo script numbers i next → AreFirstNumbers script (numbers ++ next ∷ [])
numbers_whole script numbers i next is so_far =
    ((let long = length-append numbers (next ∷ []) in let many = so_far.many in omega (arith, long, many, is)), λ k less. pushed script numbers i next so_far k (omega (arith, less, is)))
