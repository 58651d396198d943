-- The items beside an index tell whether it cuts those up to a place from those past it.
use Rattle.std.proofs.Common.{◌≡◌, ℕ, ◌-◌, ◌<◌, ◌≤◌, leb, Bool, true, false, List, length, get_or, Option, Some, None, refl, sym, ap, ◌∙◌, arith, ◌⊎◌, inl, inr}
use Rattle.std.specs.List.{slice_get}
use Rattle.std.specs.List.Sorted.{IsNonDecreasingBy, IsPartitionPoint}
use Rattle.std.proofs.lemmas.Bool.{le-leb, leb-false, leb-true}
use Rattle.std.proofs.lemmas.Option.{slice_get-get_or, slice_get_within, get_or_from_slice_get}
use Rattle.cpg_group.specs.Places.{upto}

module _ {X : Type 0} (f : X → ℕ) (xs : List X) (last : ℕ) where
  -- an item that is there up to the last place
  low_there : (i : ℕ) → upto f last (slice_get xs i) ≡ true → (x : X) × (slice_get xs i ≡ Some x) × (f x ≤ last)
  low_there i is = by_case (slice_get xs i) refl is
    where
      by_case : (o : Option X) → slice_get xs i ≡ o → upto f last o ≡ true → (x : X) × (slice_get xs i ≡ Some x) × (f x ≤ last)
      by_case None at t = absurd (cc)
      by_case (Some x) at t = (x, at, leb-true (f x) last t)

  -- one that is there, and not up to it, stands past it
  high_there : (i : ℕ) (d : X) → i < length xs → upto f last (slice_get xs i) ≡ false → last < f (get_or xs i d)
  high_there i d within is =
      leb-false (f (get_or xs i d)) last (ap (upto f last) (sym (slice_get-get_or xs i d within)) ∙ is)

  -- so such an index is within the list
  pub cut_within : (i : ℕ) → (i ≡ 0) ⊎ (upto f last (slice_get xs (i - 1)) ≡ true) → i ≤ length xs
  cut_within i (inl start) = omega (arith, start)
  cut_within i (inr low) =
      let there = low_there (i - 1) low in
      let within = slice_get_within xs (i - 1) there.0 there.1 in
      omega (arith, within)

  pub cut_beside : IsNonDecreasingBy f xs → (i : ℕ) → (i ≡ 0) ⊎ (upto f last (slice_get xs (i - 1)) ≡ true) → upto f last (slice_get xs i) ≡ false →
      IsPartitionPoint (λ x. leb (f x) last ≡ true) (λ x. leb (f x) last ≡ false) xs i
  cut_beside sorted i before behind = (below before, above)
    where
      below : (i ≡ 0) ⊎ (upto f last (slice_get xs (i - 1)) ≡ true) → (k : ℕ) (d : X) → 0 ≤ k → k < i → leb (f (get_or xs k d)) last ≡ true
      below (inl start) k d low high = absurd (omega (arith, start, high))
      below (inr upto_it) k d low high =
          let there = low_there (i - 1) upto_it in
          let within = slice_get_within xs (i - 1) there.0 there.1 in
          let order = sorted k (i - 1) d (omega (arith, high)) within in
          let same = ap f (get_or_from_slice_get xs (i - 1) there.0 d there.1) in
          let most = there.2 in
          le-leb (f (get_or xs k d)) last (omega (arith, order, same, most))

      above : (k : ℕ) (d : X) → i ≤ k → k < length xs → leb (f (get_or xs k d)) last ≡ false
      above k d low high =
          let first = high_there i d (omega (arith, low, high)) behind in
          let order = sorted i k d low high in
          by_case (leb (f (get_or xs k d)) last) refl (omega (arith, first, order))
        where
          by_case : (b : Bool) → leb (f (get_or xs k d)) last ≡ b → last < f (get_or xs k d) → b ≡ false
          by_case false at past = refl
          by_case true at past = absurd (omega (arith, leb-true (f (get_or xs k d)) last at, past))
