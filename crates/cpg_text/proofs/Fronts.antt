-- A run of bytes that pass a test, seen a block at a time through the mask of those that fail it.
use Rattle.std.proofs.Common.{◌≡◌, ◌≢◌, Some, ℕ, zero, suc, not-suc-le-zero, ◌+◌, ◌-◌, ◌*◌, ◌<◌, ◌≤◌, Bool, true, false, not, cond, eqb, List, [], ◌∷◌, map, length, take, drop, ◌++◌, refl, sym, ap, ap₂, ◌∙◌, arith}
use Rattle.std.proofs.lemmas.Simd.{chunk-drop, length-chunk, leading_from_mask_l, trailing_mask_l}
use Rattle.std.proofs.lemmas.List.{length-drop}
use Rattle.std.proofs.lemmas.List.Folds.{prefix_len-append}
use Rattle.std.proofs.lemmas.List.Sums.{prefix_len-le-length}
use Rattle.std.proofs.lemmas.Bool.{eq-eqb, ne_eqb}
use Rattle.std.proofs.lemmas.Bool.Decides.{nat_tests}
use Rattle.std.specs.List.{position, position_or_len, prefix_len}
use Rattle.cpg_text.specs.Percent.{is_plain}
use Rattle.cpg_text.specs.Steps.{is_odd}
use lib.Lanes.{chunk, mask_l}
use lib.Count.{count_trailing_zeros}

-- two turns of a test
pub not-not : (b : Bool) → b ≡ not (not b)
not-not true = refl
not-not false = refl

pub run_bound : (q : ℕ → Bool) (d : List ℕ) (i : ℕ) → i ≤ length d → i + prefix_len q (drop i d) ≤ length d
run_bound q d i h = omega (arith, prefix_len-le-length q (drop i d), length-drop i d)

-- a run is what was passed of it, and the run that stands there
pub run_further : (q : ℕ → Bool) (d : List ℕ) (i : ℕ) → i ≤ prefix_len q d → prefix_len q d ≡ i + prefix_len q (drop i d)
run_further q d zero h = omega arith
run_further q [] (suc i) h = absurd (not-suc-le-zero h)
run_further q (x ∷ xs) (suc i) h = by_test (q x) h (run_further q xs i)
  where
    by_test : (b : Bool) → suc i ≤ cond b (1 + prefix_len q xs) 0 → (i ≤ prefix_len q xs → prefix_len q xs ≡ i + prefix_len q (drop i xs))
        → cond b (1 + prefix_len q xs) 0 ≡ suc i + prefix_len q (drop i xs)
    by_test true le more = omega (arith, more (omega (arith, le)))
    by_test false le more = absurd (not-suc-le-zero le)

none_fails : (b : Bool) (n l m : ℕ) → n ≤ l → cond (not b) (1 + n) 0 ≡ 1 + l → (n ≡ l → m ≡ 0) → cond b 1 0 + 2 * m ≡ 0
none_fails true n l m le e ih = let no : ⊥ = omega arith in absurd no
none_fails false n l m le e ih = let z = ih (omega arith) in omega arith

module _ (p q : ℕ → Bool) (opposite : (x : ℕ) → q x ≡ not (p x)) where
  same_run : (xs : List ℕ) → prefix_len q xs ≡ prefix_len (λ x. not (p x)) xs
  same_run [] = refl
  same_run (x ∷ xs) = ap₂ (λ b n. cond b (1 + n) 0) (opposite x) (same_run xs)

  all_pass : (xs : List ℕ) → prefix_len (λ x. not (p x)) xs ≡ length xs → mask_l (map p xs) ≡ 0
  all_pass [] e = refl
  all_pass (x ∷ xs) e = none_fails (p x) _ (length xs) _ (prefix_len-le-length (λ y. not (p y)) xs) (omega arith) (all_pass xs)

  split : (d : List ℕ) (i n : ℕ) → prefix_len q (drop i d) ≡ cond (eqb (prefix_len q (chunk i n d)) (length (chunk i n d))) (length (chunk i n d) + prefix_len q (drop (i + n) d)) (prefix_len q (chunk i n d))
  split d i n = ap (prefix_len q) (chunk-drop i n d) ∙ prefix_len-append q (chunk i n d) (drop (i + n) d)

  -- no bit: the run goes on past the block
  pub run_through : (d : List ℕ) (i n : ℕ) → i + n ≤ length d → mask_l (map p (chunk i n d)) ≡ 0 → prefix_len q (drop i d) ≡ n + prefix_len q (drop (i + n) d)
  run_through d i n room none =
      let c = chunk i n d in
      split d i n ∙ ap (λ b. cond b (length c + prefix_len q (drop (i + n) d)) (prefix_len q c)) (eq-eqb _ _ (same_run c ∙ leading_from_mask_l p c none))
      ∙ ap (λ k. k + prefix_len q (drop (i + n) d)) (length-chunk i n d room)

  -- a bit: the run ends before the lowest
  pub run_stops : (d : List ℕ) (i n : ℕ) → i + n ≤ length d → n ≤ 64 → 0 < mask_l (map p (chunk i n d)) → prefix_len q (drop i d) ≡ count_trailing_zeros 64 (mask_l (map p (chunk i n d)))
  run_stops d i n room short some =
      let c = chunk i n d in
      split d i n ∙ ap (λ b. cond b (length c + prefix_len q (drop (i + n) d)) (prefix_len q c)) (ne_eqb _ _ (λ (e : prefix_len q c ≡ length c). omega (arith, all_pass c (sym (same_run c) ∙ e))))
      ∙ same_run c ∙ sym (trailing_mask_l p 64 c (omega (arith, length-chunk i n d room)) some)

-- no bit in two blocks is none in either
none_apart : (xs ys : List ℕ) → mask_l (map is_odd (xs ++ ys)) ≡ 0 → (mask_l (map is_odd xs) ≡ 0) × (mask_l (map is_odd ys) ≡ 0)
none_apart [] ys e = (refl, e)
none_apart (x ∷ xs) ys e = by_test (is_odd x) e (none_apart xs ys)
  where
    by_test : (b : Bool) → cond b 1 0 + 2 * mask_l (map is_odd (xs ++ ys)) ≡ 0 → (mask_l (map is_odd (xs ++ ys)) ≡ 0 → (mask_l (map is_odd xs) ≡ 0) × (mask_l (map is_odd ys) ≡ 0))
        → (cond b 1 0 + 2 * mask_l (map is_odd xs) ≡ 0) × (mask_l (map is_odd ys) ≡ 0)
    by_test true f more = absurd (omega (arith, f))
    by_test false f more = let h = more (omega (arith, f)) in (omega (arith, h.0), h.1)

-- both ends of a text have no bit, and they meet
pub ends_meet : (d : List ℕ) (n : ℕ) → n ≤ length d → length d ≤ n + n → mask_l (map is_odd (take n d ++ take n (drop (length d - n) d))) ≡ 0 → prefix_len is_plain d ≡ length d
ends_meet d n room meet none =
    let first = take n d in
    let last = take n (drop (length d - n) d) in
    let long : length first ≡ n = length-chunk 0 n d (omega (arith, room)) in
    let long-last : length last ≡ n = length-chunk (length d - n) n d (omega (arith, room)) in
    let both = none_apart first last none in
    let front = run_through is_odd is_plain (λ x. not-not (is_plain x)) d 0 n (omega (arith, room)) both.0 in
    let back = run_through is_odd is_plain (λ x. not-not (is_plain x)) d (length d - n) n (omega (arith, room)) both.1 in
    let further = run_further is_plain d (length d - n) (omega (arith, front, meet)) in
    omega (arith, further, back, room, prefix_len-le-length is_plain d)

-- a bit for the places of a first block: the lowest is the first place
pub near_place : (p : ℕ → Bool) (d : List ℕ) (n : ℕ) → n ≤ length d → n ≤ 64 → 0 < mask_l (map p (chunk 0 n d)) → position p d ≡ Some (count_trailing_zeros 64 (mask_l (map p (chunk 0 n d))))
near_place p d n room short some =
    let c = chunk 0 n d in
    let q : ℕ → Bool = λ x. not (p x) in
    let place = count_trailing_zeros 64 (mask_l (map p c)) in
    let long = length-chunk 0 n d (omega arith) in
    let here : place ≡ prefix_len q c = trailing_mask_l p 64 c (omega (arith, long)) some in
    let stops : position_or_len p d ≡ place = run_stops p q (λ x. refl) d 0 n (omega arith) short some in
    let ends : prefix_len q c ≢ length c = λ (e : prefix_len q c ≡ length c). omega (arith, all_pass p q (λ x. refl) c e) in
    let within : place < length d = omega (arith, here, long, ends, prefix_len-le-length q c) in
    grind (arith, nat_tests, stops, within)
