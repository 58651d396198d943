-- What a binary search in a list of places finds.
use Rattle.std.proofs.Common.{◌≡◌, ℕ, zero, suc, ◌+◌, ◌<◌, ◌≤◌, leb, Bool, true, false, List, [], ◌∷◌, map, get_or, Option, Some, None, refl, sym, ap, subst, ◌∙◌, arith, ◌⊎◌, inl, inr}
use Rattle.std.specs.Prelude.{option_map}
use Rattle.std.specs.List.{slice_get}
use Rattle.std.specs.List.Sorted.{IsNonDecreasingBy, IsPartitionPoint}
use Rattle.std.proofs.lemmas.Bool.{cases_lt, leb-false, leb-true}
use Rattle.std.proofs.lemmas.Option.{slice_get-map, slice_get-get_or, slice_get_within, get_or_from_slice_get}
use Rattle.cpg_record.specs.declared.records.Record.{Record}
use Rattle.cpg_record.specs.Nexts.{NextIsAtTheCut}
use Rattle.cpg_record.specs.Places.{places_of, record_at, IsNextOf}
use Rattle.cpg_record.proofs.Positions.{ascending, complete, sound}

mapped : {X : Type 0} (f : X → ℕ) (o : Option X) (n : ℕ) → option_map f o ≡ Some n → (x : X) × (o ≡ Some x) × (f x ≡ n)
mapped f None n is = absurd (cc)
mapped f (Some x) n is =
    let same : f x ≡ n = cc in
    (x, refl, same)

suc_is : (n : ℕ) → 1 + n ≡ suc n
suc_is n = omega arith

-- what can't be true is false
unless : (b : Bool) → (b ≡ true → ⊥) → b ≡ false
unless false never = refl
unless true never = absurd (never refl)

-- the places of a list are those of the records that pass
module _ {X : Type 0} (f : X → ℕ) (xs : List X) (q : Record → Bool) (rs : List Record) (are : map f xs ≡ places_of q rs) where
  stands_at : (i : ℕ) (x : X) → slice_get xs i ≡ Some x → slice_get (places_of q rs) i ≡ Some (f x)
  stands_at i x is = ap (λ (ps : List ℕ). slice_get ps i) (sym are) ∙ slice_get-map f xs i ∙ ap (option_map f) is

  later_above : (i k : ℕ) (x y : X) → slice_get xs i ≡ Some x → slice_get xs k ≡ Some y → i < k → f x < f y
  later_above i k x y a b h = ascending q 1 rs i k (f x) (f y) (stands_at i x a) (stands_at k y b) h

  not_above : (i k : ℕ) (x y : X) → slice_get xs i ≡ Some x → slice_get xs k ≡ Some y → i ≤ k → f x ≤ f y
  not_above i k x y a b h = by_case (cases_lt i k)
    where
      by_case : (i < k) ⊎ (k ≤ i) → f x ≤ f y
      by_case (inl earlier) = omega (arith, later_above i k x y a b earlier)
      by_case (inr later) =
          let same : i ≡ k = omega arith in
          let alike : Some x ≡ Some y = sym a ∙ ap (slice_get xs) same ∙ b in
          let one : x ≡ y = cc in
          omega (arith, ap f one)

  pub non_decreasing : IsNonDecreasingBy f xs
  non_decreasing i j d low high = not_above i j (get_or xs i d) (get_or xs j d) (slice_get-get_or xs i d (omega arith)) (slice_get-get_or xs j d high) low

  -- a record that passes has its place in the list
  pub listed : (n : ℕ) (r : Record) → slice_get rs n ≡ Some r → q r ≡ true → (i : ℕ) × (x : X) × (slice_get xs i ≡ Some x) × (f x ≡ 1 + n)
  listed n r is passes =
      let there = complete q 1 rs n r is passes in
      let found = mapped f (slice_get xs there.0) (1 + n) (sym (slice_get-map f xs there.0) ∙ ap (λ (ps : List ℕ). slice_get ps there.0) are ∙ there.1) in
      (there.0, found.0, found.1, found.2)

  module _ (last k : ℕ) (cut : IsPartitionPoint (λ x. leb (f x) last ≡ true) (λ x. leb (f x) last ≡ false) xs k) where
    -- what stands below the cut is low, and what stands from it on is high
    pub low_below : (i : ℕ) (x : X) → slice_get xs i ≡ Some x → i < k → f x ≤ last
    low_below i x is h =
        let at : leb (f x) last ≡ true = ap (λ (y : X). leb (f y) last) (sym (get_or_from_slice_get xs i x x is)) ∙ cut.0 i x (omega arith) h in
        leb-true (f x) last at

    high_above : (i : ℕ) (x : X) → slice_get xs i ≡ Some x → k ≤ i → last < f x
    high_above i x is h =
        let at : leb (f x) last ≡ false = ap (λ (y : X). leb (f y) last) (sym (get_or_from_slice_get xs i x x is)) ∙ cut.1 i x h (slice_get_within xs i x is) in
        leb-false (f x) last at

    -- a record that passes above the last stands in the list from the cut on
    found_high : (n : ℕ) (r : Record) → last < 1 + n → slice_get rs n ≡ Some r → q r ≡ true → (i : ℕ) × (x : X) × (slice_get xs i ≡ Some x) × (f x ≡ 1 + n) × (k ≤ i)
    found_high n r above is passes =
        let there = listed n r is passes in
        (there.0, there.1, there.2, there.3, by_case there.0 there.1 there.2 there.3 (cases_lt there.0 k))
      where
        by_case : (i : ℕ) (x : X) → slice_get xs i ≡ Some x → f x ≡ 1 + n → (i < k) ⊎ (k ≤ i) → k ≤ i
        by_case i x at here (inl low) = absurd (omega (arith, low_below i x at low, here))
        by_case i x at here (inr high) = high

    -- and one up to the last below it
    found_low : (n : ℕ) (r : Record) → 1 + n ≤ last → slice_get rs n ≡ Some r → q r ≡ true → (i : ℕ) × (x : X) × (slice_get xs i ≡ Some x) × (f x ≡ 1 + n) × (i < k)
    found_low n r above is passes =
        let there = listed n r is passes in
        (there.0, there.1, there.2, there.3, by_case there.0 there.1 there.2 there.3 (cases_lt there.0 k))
      where
        by_case : (i : ℕ) (x : X) → slice_get xs i ≡ Some x → f x ≡ 1 + n → (i < k) ⊎ (k ≤ i) → i < k
        by_case i x at here (inl low) = low
        by_case i x at here (inr high) = absurd (omega (arith, high_above i x at high, here))

    -- no record passes above the last where nothing stands at the cut
    none_left : slice_get xs k ≡ None → (place : ℕ) (r : Record) → last < place → record_at rs place ≡ Some r → q r ≡ false
    none_left none zero r above is = absurd (omega arith)
    none_left none (suc n) r above is =
        unless (q r)
        (λ passes.
        let there = found_high n r (omega arith) is passes in
        let within = slice_get_within xs there.0 there.1 there.2 in
        let some : slice_get xs k ≡ Some (get_or xs k there.1) = slice_get-get_or xs k there.1 (omega (arith, within, there.4)) in
        cc)

    -- and none between the last and what stands at the cut
    none_before : (y : X) → slice_get xs k ≡ Some y → (place : ℕ) (r : Record) → last < place → place < f y → record_at rs place ≡ Some r → q r ≡ false
    none_before y first zero r above below is = absurd (omega arith)
    none_before y first (suc n) r above below is =
        unless (q r)
        (λ passes.
        let there = found_high n r (omega arith) is passes in
        omega (arith, not_above k there.0 y there.1 first there.2 there.4, there.3))

    -- the first from the cut on is the next place
    pub next_found : IsNextOf q rs last (option_map f (slice_get xs k))
    next_found = by_case (slice_get xs k) refl
      where
        standing : (y : X) → slice_get xs k ≡ Some y → (r : Record) × (record_at rs (f y) ≡ Some r) × (q r ≡ true)
        standing y at =
            let there = sound q 1 rs k (f y) (stands_at k y at) in
            (there.r, ap (record_at rs) (there.counted ∙ suc_is there.index) ∙ there.stands, there.passes)

        by_case : (o : Option X) → slice_get xs k ≡ o → IsNextOf q rs last (option_map f o)
        by_case None none = none_left none
        by_case (Some y) at = (high_above k y at (omega arith), standing y at, none_before y at)

    -- up to the last, no record passes after what stands before the cut
    pub quiet_since : (i : ℕ) (y : X) → k ≡ suc i → slice_get xs i ≡ Some y → (n : ℕ) (r : Record) → f y ≤ n → n < last → slice_get rs n ≡ Some r → q r ≡ false
    quiet_since i y at stands n r above below is =
        unless (q r)
        (λ passes.
        let there = found_low n r (omega arith) is passes in
        omega (arith, not_above there.0 i there.1 y there.2 stands (omega (arith, there.4, at)), there.3))

    -- and none at all where nothing stands before it
    pub quiet_from_start : k ≡ 0 → (n : ℕ) (r : Record) → n < last → slice_get rs n ≡ Some r → q r ≡ false
    quiet_from_start at n r below is =
        unless (q r)
        (λ passes.
        let there = found_low n r (omega arith) is passes in
        omega (arith, there.4, at))

map_itself : (o : Option ℕ) → option_map (λ (n : ℕ). n) o ≡ o
map_itself None = refl
map_itself (Some n) = refl

pub all_themselves : (xs : List ℕ) → map (λ (n : ℕ). n) xs ≡ xs
all_themselves [] = refl
all_themselves (n ∷ xs) = ap (λ (rest : List ℕ). n ∷ rest) (all_themselves xs)

pub next_is_at_the_cut : NextIsAtTheCut
next_is_at_the_cut q rs last k cut =
    subst (IsNextOf q rs last) (map_itself (slice_get (places_of q rs) k))
    (next_found (λ (n : ℕ). n) (places_of q rs) q rs (all_themselves (places_of q rs)) last k cut)
