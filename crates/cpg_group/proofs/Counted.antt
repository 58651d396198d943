-- How many places a binary search counts, and what stands after as many.
use Rattle.std.proofs.Common.{◌≡◌, ℕ, suc, ◌+◌, ◌-◌, ◌<◌, ◌≤◌, leb, length, map, take, drop, get_or, Bool, true, false, cond, List, [], ◌∷◌, ◌++◌, Option, Some, refl, sym, ap, subst, ◌∙◌, arith, ◌⊎◌, inl, inr}
use Rattle.std.specs.List.{slice_get}
use Rattle.std.specs.List.Sorted.{IsPartitionPoint}
use Rattle.std.proofs.lemmas.Bool.{cases_lt, le-leb, leb-true, leb-false, lt-leb}
use Rattle.std.proofs.lemmas.List.{take-append-drop, drop_all, length-append, length-map, length-take, get_or-append_right, get_or_append_left, get_or-map}
use Rattle.std.proofs.lemmas.Option.{get_or_from_slice_get, slice_get-get_or, slice_get_within}
use Rattle.cpg_record.specs.declared.records.Record.{Record}
use Rattle.cpg_record.specs.Places.{places_from, places_of, IsNextOf}
use Rattle.cpg_record.proofs.Cuts.{all_themselves, next_is_at_the_cut}
use Rattle.cpg_record.proofs.Positions.{ascending, sound}

-- the places of records, and then of more
pub places_from-append : (q : Record → Bool) (m : ℕ) (rs more : List Record) → places_from q m (rs ++ more) ≡ places_from q m rs ++ places_from q (m + length rs) more
places_from-append q m [] more = ap (λ (n : ℕ). places_from q n more) (omega arith)
places_from-append q m (s ∷ rs) more = by_case (q s) (places_from-append q (suc m) rs more ∙ ap (λ (n : ℕ). places_from q (suc m) rs ++ places_from q n more) (omega arith))
  where
    by_case : (b : Bool) → places_from q (suc m) (rs ++ more) ≡ places_from q (suc m) rs ++ places_from q (m + suc (length rs)) more →
        cond b (m ∷ places_from q (suc m) (rs ++ more)) (places_from q (suc m) (rs ++ more))
        ≡ cond b (m ∷ places_from q (suc m) rs) (places_from q (suc m) rs) ++ places_from q (m + suc (length rs)) more
    by_case true rest = ap (λ (ps : List ℕ). m ∷ ps) rest
    by_case false rest = rest

module _ (q : Record → Bool) (rs : List Record) (last : ℕ) where
  abbrev low : List ℕ
  low = places_of q (take last rs)

  abbrev high : List ℕ
  high = places_from q (1 + length (take last rs)) (drop last rs)

  parted : places_of q rs ≡ low ++ high
  parted = ap (places_of q) (sym (take-append-drop last rs)) ∙ places_from-append q 1 (take last rs) (drop last rs)

  low_is : (i : ℕ) → i < length low → get_or low i 0 ≤ last
  low_is i h =
      let there = sound q 1 (take last rs) i (get_or low i 0) (slice_get-get_or low i 0 h) in
      let within : there.index < length (take last rs) = slice_get_within (take last rs) there.index there.r there.stands in
      omega (arith, there.counted, within, length-take last rs)

  high_is : (i : ℕ) → i < length high → last < get_or high i 0
  high_is i h = by_case (cases_lt last (length rs))
    where
      by_case : (last < length rs) ⊎ (length rs ≤ last) → last < get_or high i 0
      by_case (inl some) =
          let there = sound q (1 + length (take last rs)) (drop last rs) i (get_or high i 0) (slice_get-get_or high i 0 h) in
          omega (arith, there.counted, some, length-take last rs)
      by_case (inr none) =
          let empty : high ≡ [] = ap (places_from q (1 + length (take last rs))) (drop_all last rs none) in
          let nothing : length high ≡ 0 = ap length empty in
          absurd (omega (arith, h, nothing))

  module _ (k : ℕ) (within : k ≤ length (places_of q rs))
      (cut : IsPartitionPoint (λ (place : ℕ). leb place last ≡ true) (λ (place : ℕ). leb place last ≡ false) (places_of q rs) k) where
    counted : length (places_of q rs) ≡ length low + length high
    counted = ap length parted ∙ length-append low high

    not_below : k < length low → ⊥
    not_below h =
        let at : get_or (places_of q rs) k 0 ≡ get_or low k 0 = ap (λ (ps : List ℕ). get_or ps k 0) parted ∙ get_or_append_left low high 0 k h in
        let above : last < get_or (places_of q rs) k 0 = leb-false _ _ (cut.1 k 0 (omega arith) (omega (arith, counted, h))) in
        omega (arith, above, at, low_is k h)

    not_above : length low < k → ⊥
    not_above h =
        let some : 0 < length high = omega (arith, counted, h, within) in
        let at : get_or (places_of q rs) (length low) 0 ≡ get_or high 0 0 =
        ap (λ (ps : List ℕ). get_or ps (length low) 0) parted ∙ get_or-append_right low high (length low) (length low) 0 refl (omega arith)
        ∙ ap (λ (n : ℕ). get_or high n 0) (omega arith) in
        let below : get_or (places_of q rs) (length low) 0 ≤ last = leb-true _ _ (cut.0 (length low) 0 (omega (arith, h, within)) h) in
        omega (arith, below, at, high_is 0 some)

    pub count_is : k ≡ length low
    count_is = by_case (cases_lt k (length low)) (cases_lt (length low) k)
      where
        by_case : (k < length low) ⊎ (length low ≤ k) → (length low < k) ⊎ (k ≤ length low) → k ≡ length low
        by_case (inl a) b = absurd (not_below a)
        by_case (inr a) (inl b) = absurd (not_above b)
        by_case (inr a) (inr b) = omega (arith, a, b)

  -- what stands at the places is cut after as many
  module _ {X : Type 0} (f : X → ℕ) (xs : List X) (are : map f xs ≡ places_of q rs) (k : ℕ) (is : k ≡ length low) where
    total : length xs ≡ length low + length high
    total = sym (length-map xs f) ∙ ap length (are ∙ parted) ∙ length-append low high

    pub count_within : k ≤ length xs
    count_within = omega (arith, total, is)

    stands_low : (i : ℕ) (d : X) → i < length low → f (get_or xs i d) ≡ get_or low i 0
    stands_low i d h =
        sym (get_or-map f xs i d 0 (omega (arith, h, total))) ∙ ap (λ (ps : List ℕ). get_or ps i 0) (are ∙ parted) ∙ get_or_append_left low high 0 i h

    stands_high : (i : ℕ) (d : X) → length low ≤ i → i < length xs → f (get_or xs i d) ≡ get_or high (i - length low) 0
    stands_high i d h within =
        sym (get_or-map f xs i d 0 within) ∙ ap (λ (ps : List ℕ). get_or ps i 0) (are ∙ parted) ∙ get_or-append_right low high (length low) i 0 refl h

    pub cut_there : IsPartitionPoint (λ (x : X). leb (f x) last ≡ true) (λ (x : X). leb (f x) last ≡ false) xs k
    cut_there = (
      (λ i d bottom below.
          let h : i < length low = omega (arith, below, is) in
          le-leb _ _ (omega (arith, stands_low i d h, low_is i h))),
      (λ i d above within.
          let h : length low ≤ i = omega (arith, above, is) in
          let some : i - length low < length high = omega (arith, h, within, total) in
          lt-leb _ _ (omega (arith, stands_high i d h within, high_is (i - length low) some))),
    )

  -- and where it is cut, as many stand before
  module _ {X : Type 0} (f : X → ℕ) (xs : List X) (are : map f xs ≡ places_of q rs) (k : ℕ) (within : k ≤ length xs) (d : X)
      (cut : IsPartitionPoint (λ (x : X). leb (f x) last ≡ true) (λ (x : X). leb (f x) last ≡ false) xs k) where
    places_cut : IsPartitionPoint (λ (place : ℕ). leb place last ≡ true) (λ (place : ℕ). leb place last ≡ false) (map f xs) k
    places_cut = (
      (λ i e bottom below. ap (λ (n : ℕ). leb n last) (get_or-map f xs i d e (omega (arith, below, within))) ∙ cut.0 i d bottom below),
      (λ i e above h.
          let low : i < length xs = omega (arith, h, length-map xs f) in
          ap (λ (n : ℕ). leb n last) (get_or-map f xs i d e low) ∙ cut.1 i d above low),
    )

    pub count_there : k ≡ length low
    count_there =
        count_is k (omega (arith, within, length-map xs f, ap length are))
        (subst (λ (ps : List ℕ). IsPartitionPoint (λ (place : ℕ). leb place last ≡ true) (λ (place : ℕ). leb place last ≡ false) ps k) are places_cut)

-- what stands after as many places as there are up to one is the next place above it
pub next_by_count : (q : Record → Bool) (rs : List Record) (after : ℕ) (found : Option ℕ) → slice_get (places_of q rs) (length (places_of q (take after rs))) ≡ found → IsNextOf q rs after found
next_by_count q rs after found is =
    subst (IsNextOf q rs after) is
    (next_is_at_the_cut q rs after (length (places_of q (take after rs)))
    (cut_there q rs after (λ (place : ℕ). place) (places_of q rs) (all_themselves (places_of q rs)) (length (places_of q (take after rs))) refl))

-- and up to that place there is one more
module _ (q : Record → Bool) (rs : List Record) (after place : ℕ) (is : slice_get (places_of q rs) (length (places_of q (take after rs))) ≡ Some place) where
  abbrev ps : List ℕ
  ps = places_of q rs

  abbrev count : ℕ
  count = length (places_of q (take after rs))

  within : count < length ps
  within = slice_get_within ps count place is

  up_to : (i d : ℕ) → i < suc count → get_or ps i d ≤ place
  up_to i d h = by_case (cases_lt i count)
    where
      by_case : (i < count) ⊎ (count ≤ i) → get_or ps i d ≤ place
      by_case (inl low) =
          let below : get_or ps i d < place = ascending q 1 rs i count (get_or ps i d) place (slice_get-get_or ps i d (omega (arith, low, within))) is low in
          omega (arith, below)
      by_case (inr high) =
          let same : i ≡ count = omega (arith, h, high) in
          let here : get_or ps i d ≡ place = ap (λ (k : ℕ). get_or ps k d) same ∙ get_or_from_slice_get ps count place d is in
          omega (arith, here)

  past : (i d : ℕ) → count < i → i < length ps → place < get_or ps i d
  past i d above h = ascending q 1 rs count i place (get_or ps i d) is (slice_get-get_or ps i d h) above

  pub one_more_by_count : length (places_of q (take place rs)) ≡ suc count
  one_more_by_count =
      sym (count_is q rs place (suc count) (omega (arith, within))
      ((λ i d bottom below. le-leb _ _ (up_to i d below)), (λ i d above below. lt-leb _ _ (past i d (omega (arith, above)) below))))
