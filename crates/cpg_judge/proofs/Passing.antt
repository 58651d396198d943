-- How many of ascending places come up to a place, from how many come up to one before it.
use Rattle.std.proofs.Common.{◌≡◌, ℕ, zero, suc, ◌-◌, ◌<◌, ◌≤◌, ltb, Bool, true, false, List, [], ◌∷◌, ◌++◌, length, take, drop, Some, None, Option, refl, sym, ap, subst, ◌∙◌, arith}
use Rattle.std.specs.Prelude.{nat_le, MatchOption}
use Rattle.std.specs.List.{slice_get}
use Rattle.std.proofs.lemmas.Bool.{leb-false, leb-true, ltb-false, ltb-true}
use Rattle.std.proofs.lemmas.List.{length-append, length-take-le, take_all}
use Rattle.std.proofs.lemmas.Option.{slice_get_within}
use Rattle.cpg_record.specs.declared.records.Record.{Record}
use Rattle.cpg_record.specs.Places.{places_from, places_of}
use Rattle.cpg_record.proofs.Inboxes.{slice_get_front}
use Rattle.cpg_record.proofs.Positions.{sound}
use Rattle.cpg_judge.proofs.Telling.{places_parted}

slice_get_behind : {X : Type 0} (xs ys : List X) (i : ℕ) → length xs ≤ i → slice_get (xs ++ ys) i ≡ slice_get ys (i - length xs)
slice_get_behind [] ys i h = ap (slice_get ys) (omega arith)
slice_get_behind (x ∷ xs) ys zero h = absurd (omega (arith, h))
slice_get_behind (x ∷ xs) ys (suc i) h = slice_get_behind xs ys i (omega (arith, h)) ∙ ap (slice_get ys) (omega arith)

there_within : {X : Type 0} (xs : List X) (i : ℕ) → i < length xs → (x : X) × (slice_get xs i ≡ Some x)
there_within [] i h = absurd (omega arith)
there_within (x ∷ xs) zero h = (x, refl)
there_within (x ∷ xs) (suc i) h = there_within xs i (omega (arith, h))

module _ (q : Record → Bool) (rs : List Record) (last : ℕ) (within : last ≤ length rs) where
  abbrev early : List ℕ
  early = places_of q (take last rs)

  abbrev late : List ℕ
  late = places_from q (suc last) (take (length rs - last) (drop last rs))

  split : places_of q rs ≡ early ++ late
  split = ap (places_of q) (sym (take_all (length rs) rs (omega arith))) ∙ places_parted q rs last (length rs) within within

  below : (i p : ℕ) → i < length early → slice_get (places_of q rs) i ≡ Some p → p ≤ last
  below i p h is =
      let there = sound q 1 (take last rs) i p (sym (slice_get_front early late i h) ∙ ap (λ l. slice_get l i) (sym split) ∙ is) in
      omega (arith, there.counted, slice_get_within (take last rs) there.index there.r there.stands, length-take-le last rs within)

  above : (i p : ℕ) → length early ≤ i → slice_get (places_of q rs) i ≡ Some p → last < p
  above i p h is =
      let there = sound q (suc last) (take (length rs - last) (drop last rs)) (i - length early) p (sym (slice_get_behind early late i h) ∙ ap (λ l. slice_get l i) (sym split) ∙ is) in
      omega (arith, there.counted)

  -- so many of them come up to it, where the next one does not
  pub stops_at : (k : ℕ) → k ≤ length early → ((p : ℕ) → slice_get (places_of q rs) k ≡ Some p → last < p) → k ≡ length early
  stops_at k upto later = by_case (ltb k (length early)) refl
    where
      by_case : (b : Bool) → ltb k (length early) ≡ b → k ≡ length early
      by_case true is =
          let less : k < length early = ltb-true k (length early) is in
          let here = there_within (places_of q rs) k (omega (arith, less, ap length split, length-append early late)) in
          absurd (omega (arith, below k here.0 less here.1, later here.0 here.1))
      by_case false is = omega (arith, ltb-false k (length early) is, upto)

  -- and one more than stand before one that does
  pub passes_on : (k p : ℕ) → slice_get (places_of q rs) k ≡ Some p → p ≤ last → suc k ≤ length early
  passes_on k p is upto = by_case (ltb k (length early)) refl
    where
      by_case : (b : Bool) → ltb k (length early) ≡ b → suc k ≤ length early
      by_case true at = omega (arith, ltb-true k (length early) at)
      by_case false at = absurd (omega (arith, above k p (ltb-false k (length early) at) is, upto))

pub counts_grow : (q : Record → Bool) (rs : List Record) (after last : ℕ) → after ≤ last → last ≤ length rs → length (places_of q (take after rs)) ≤ length (places_of q (take last rs))
counts_grow q rs after last low within =
    omega (arith, ap length (places_parted q rs after last low (omega (arith, low, within))), length-append (places_of q (take after rs)) (places_from q (suc after) (take (last - after) (drop after rs))))

-- what the test of a place says
pub is_later : (ps : List ℕ) (k last : ℕ) (b : Bool) → MatchOption (slice_get ps k) (b ≡ false) (λ place. b ≡ nat_le place last) → b ≡ false → (p : ℕ) → slice_get ps k ≡ Some p → last < p
is_later ps k last b told fails p is =
    let said : b ≡ nat_le p last = subst (λ (o : Option ℕ). MatchOption o (b ≡ false) (λ place. b ≡ nat_le place last)) is told in
    leb-false p last (sym said ∙ fails)

pub record Earlier (ps : List ℕ) (k last : ℕ) : Type 0 where
  pub place : ℕ
  pub stands : slice_get ps k ≡ Some place
  pub upto : place ≤ last

pub is_earlier : (ps : List ℕ) (k last : ℕ) (b : Bool) → MatchOption (slice_get ps k) (b ≡ false) (λ place. b ≡ nat_le place last) → b ≡ true → Earlier ps k last
is_earlier ps k last b told passes = by_case (slice_get ps k) refl told
  where
    by_case : (o : Option ℕ) → slice_get ps k ≡ o → MatchOption o (b ≡ false) (λ place. b ≡ nat_le place last) → Earlier ps k last
    by_case None is said = absurd (cc)
    by_case (Some p) is said = record { place = p; stands = is; upto = leb-true p last (sym said ∙ passes) }
