-- What is kept at an index of a map whose keys are names is what a look-up of the name finds, and a write there is a write by that name.
use Rattle.std.proofs.Common.{◌≡◌, ℕ, ◌<◌, List, length, Some, sym, ap, ◌∙◌}
use Rattle.std.specs.Cmp.Lexicographic.{nat_list_eq_equiv}
use Rattle.std.specs.List.{slice_get, IsDistinct}
use Rattle.std.specs.Map.{lookup, set_value}
use Rattle.std.specs.Option.{unwrap_or}
use Rattle.std.specs.Str.{bytes_eq}
use Rattle.std.proofs.lemmas.Map.Entries.{lookup_from_place}
use Rattle.indexmap.specs.IndexMap.{set_value_at}
use Rattle.cpg_record.specs.Named.{Named, names_of}
use Rattle.cpg_group.proofs.Placed.{key_at, set_at, within_keys}

module _ {X : Type 0} (name : List ℕ) (es kept : Named X) (same : es ≡ kept) (i : ℕ) (here : slice_get (names_of kept) i ≡ Some name) where
  here_too : slice_get (names_of es) i ≡ Some name
  here_too = ap (λ (names : Named X). slice_get (names_of names) i) same ∙ here

  -- an index of a name lies within the entries
  pub within_names : i < length es
  within_names = within_keys es i name here_too

  module _ (k : List ℕ) (v : X) (apart : IsDistinct bytes_eq (names_of es)) (at : slice_get es i ≡ Some (k, v)) where
    spelled : k ≡ name
    spelled = ap (λ o. unwrap_or o name) (sym (key_at es i k v at) ∙ here_too)

    -- what stands at the index of a name is what is found for it
    pub found_there : Some v ≡ lookup (bytes_eq name) kept
    found_there = sym (lookup_from_place nat_list_eq_equiv es i k v apart at) ∙ (λ j. lookup (bytes_eq (spelled j)) (same j))

    -- and what is set there is set for the name
    pub set_there : (w : X) → set_value_at es i w ≡ set_value (bytes_eq name) kept w
    set_there w = set_at nat_list_eq_equiv es i k v w apart at ∙ (λ j. set_value (bytes_eq (spelled j)) (same j) w)
