-- What is kept at an index of a map is what a look-up of its key finds, and a write there is a write by that key.
use Rattle.std.proofs.Common.{◌≡◌, ℕ, zero, suc, ◌<◌, nat_eq, Bool, true, false, true≢false, cond, List, [], ◌∷◌, length, Some, sym, ap, ◌∙◌, is_some, arith}
use Rattle.std.specs.Cmp.{IsEquivalence}
use Rattle.std.specs.Cmp.Lexicographic.{pointwise, on_texts_equal}
use Rattle.std.specs.List.{slice_get, AllByRecursion, IsDistinct}
use Rattle.std.specs.Map.{keys_of, lookup, set_value}
use Rattle.std.specs.Option.{option_map, unwrap_or}
use Rattle.std.specs.Str.{bytes_eq}
use Rattle.std.specs.declared.vec.Vec.{Vec}
use Rattle.std.proofs.lemmas.Map.Entries.{lookup_from_place}
use Rattle.indexmap.specs.IndexMap.{set_value_at}
use Rattle.cpg_record.specs.Named.{Named, found_or, kept_or, named, names_of}
use Rattle.cpg_record.proofs.Named.{found_alike, kept_grown, kept_same, kept_set, set_alike}

module _ {K X : Type 0} {eq : K → K → Bool} (laws : IsEquivalence eq) where
  apart_at : (q k : K) (v : X) (es : List (K × X)) (i : ℕ) → AllByRecursion (λ x. eq q x ≡ false) (keys_of es) → slice_get es i ≡ Some (k, v) → eq q k ≡ false
  apart_at q k v [] i apart at = absurd (true≢false (sym (ap is_some at)))
  apart_at q k v (e ∷ es) zero apart at = sym (ap (λ o. eq q (unwrap_or o e).0) at) ∙ apart.0
  apart_at q k v (e ∷ es) (suc i) apart at = apart_at q k v es i apart.1 at

  -- a write at the index of a key is a write by that key
  pub set_at : (es : List (K × X)) (i : ℕ) (k : K) (v w : X) → IsDistinct eq (keys_of es) → slice_get es i ≡ Some (k, v) → set_value_at es i w ≡ set_value (eq k) es w
  unfolding IsDistinct
  set_at [] i k v w apart at = absurd (true≢false (sym (ap is_some at)))
  set_at (e ∷ es) zero k v w apart at =
      let same : eq k e.0 ≡ true = ap (λ o. eq k (unwrap_or o e).0) at ∙ laws.refl k in
      sym (ap (λ b. cond b ((e.0, w) ∷ es) (e ∷ set_value (eq k) es w)) same)
  set_at (e ∷ es) (suc i) k v w apart at =
      let other : eq k e.0 ≡ false = laws.symm k e.0 ∙ apart_at e.0 k v es i apart.0 at in
      ap (λ l. e ∷ l) (set_at es i k v w apart.1 at) ∙ sym (ap (λ b. cond b ((e.0, w) ∷ es) (e ∷ set_value (eq k) es w)) other)

-- an index of a key lies within the entries
pub within_keys : {K X : Type 0} (es : List (K × X)) (i : ℕ) (k : K) → slice_get (keys_of es) i ≡ Some k → i < length es
within_keys [] i k at = absurd (true≢false (sym (ap is_some at)))
within_keys (e ∷ es) zero k at = omega arith
within_keys (e ∷ es) (suc i) k at = let below = within_keys es i k at in omega (arith, below)

-- the key at an index is that of the entry there
pub key_at : {K X : Type 0} (es : List (K × X)) (i : ℕ) (k : K) (v : X) → slice_get es i ≡ Some (k, v) → slice_get (keys_of es) i ≡ Some k
key_at [] i k v at = absurd (true≢false (sym (ap is_some at)))
key_at (e ∷ es) zero k v at = ap (option_map (λ p. p.0)) at
key_at (e ∷ es) (suc i) k v at = key_at es i k v at

-- ---- by names

within : {X Z : Type 0} (es : List (Vec ℕ Z × X)) (i : ℕ) (name : List ℕ) → slice_get (names_of (named es)) i ≡ Some name → i < length es
within [] i name at = absurd (true≢false (sym (ap is_some at)))
within (e ∷ es) zero name at = omega arith
within (e ∷ es) (suc i) name at = let below = within es i name at in omega (arith, below)

-- the name at an index is that of the entry there
pub name_at : {X Z : Type 0} (es : List (Vec ℕ Z × X)) (i : ℕ) (k : Vec ℕ Z) (v : X) → slice_get es i ≡ Some (k, v) → slice_get (names_of (named es)) i ≡ Some k.items
name_at [] i k v at = absurd (true≢false (sym (ap is_some at)))
name_at (e ∷ es) zero k v at = ap (option_map (λ p. p.0.items)) at
name_at (e ∷ es) (suc i) k v at = name_at es i k v at

module _ {X Z : Type 0} (name : List ℕ) (es : List (Vec ℕ Z × X)) (kept : Named X) (same : named es ≡ kept) (i : ℕ) (here : slice_get (names_of kept) i ≡ Some name) where
  here_too : slice_get (names_of (named es)) i ≡ Some name
  here_too = ap (λ (names : Named X). slice_get (names_of names) i) same ∙ here

  -- an index of a name lies within the entries
  pub within_names : i < length es
  within_names = within es i name here_too

  module _ (k : Vec ℕ Z) (v : X) (apart : IsDistinct (λ a b. pointwise nat_eq a.items b.items) (keys_of es)) (at : slice_get es i ≡ Some (k, v)) where
    spelled : k.items ≡ name
    spelled = ap (λ o. unwrap_or o name) (sym (name_at es i k v at) ∙ here_too)

    -- what stands at the index of a name is what is found for it
    found_there : Some v ≡ lookup (bytes_eq name) kept
    found_there =
        sym (lookup_from_place (on_texts_equal (λ (key : Vec ℕ Z). key.items)) es i k v apart at)
        ∙ found_alike k.items es
        ∙ (λ j. lookup (bytes_eq (spelled j)) (same j))

    -- and what is set there is set for the name
    set_there : (w : X) → named (set_value_at es i w) ≡ set_value (bytes_eq name) kept w
    set_there w =
        ap named (set_at (on_texts_equal (λ (key : Vec ℕ Z). key.items)) es i k v w apart at)
        ∙ set_alike k.items es w
        ∙ (λ j. set_value (bytes_eq (spelled j)) (same j) w)

    module _ (other : X) where
      -- so what stands there is kept for the name
      pub kept_there : v ≡ kept_or other kept name
      kept_there = ap (found_or other) found_there

      -- and what is set there for that name alone
      pub kept_set_there : (w : X) (g : List ℕ) → kept_or other (named (set_value_at es i w)) g ≡ cond (bytes_eq name g) w (kept_or other kept g)
      kept_set_there w g = ap (λ (names : Named X). kept_or other names g) (set_there w) ∙ kept_set other kept name w g (ap is_some (sym found_there))

      -- what grew of it grew for that name alone
      pub kept_grown_there : (w : X) (grow : X → X) → w ≡ grow v → (g : List ℕ) →
          kept_or other (named (set_value_at es i w)) g ≡ cond (bytes_eq name g) (grow (kept_or other kept g)) (kept_or other kept g)
      kept_grown_there w grow is g = kept_set_there w g ∙ kept_grown other kept name g v w grow kept_there is

      -- and set as it was it changes nothing
      pub kept_same_there : (w : X) → w ≡ v → (g : List ℕ) → kept_or other (named (set_value_at es i w)) g ≡ kept_or other kept g
      kept_same_there w is g = kept_set_there w g ∙ kept_same other kept name g w (is ∙ kept_there)
