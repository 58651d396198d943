-- names as they are kept, and as they are seen
use Rattle.std.proofs.Common.{◌≡◌, ℕ, nat_eq, zero, suc, List, [], ◌∷◌, ◌++◌, drop, Bool, true, false, None, Some, is_some, if◌then◌else◌, cond, refl, ap, ◌∙◌, slice_get, unwrap_or}
use Rattle.std.proofs.lemmas.List.{map-append}
use Rattle.smallvec.specs.SmallVec.{SmallVec}
use Rattle.std.specs.Cmp.Lexicographic.{pointwise}
use Rattle.std.specs.Map.{lookup}
use Rattle.std.specs.Str.{bytes_eq}
use Rattle.indexmap.specs.IndexMap.{insert_entry}
use Rattle.cpg_conf.specs.Names.{number_of, with_name}
use Rattle.cpg_conf.specs.Steps.{pairs}

-- a name is found among the entries as among the pairs
pub found_alike : (name : List ℕ) (entries : List (SmallVec ℕ × ℕ))
    → lookup (λ key. pointwise nat_eq name key.items) entries ≡ number_of (pairs entries) name
found_alike name [] = refl
found_alike name (entry ∷ entries) = ap (cond (bytes_eq name entry.0.items) (Some entry.1)) (found_alike name entries)

-- an entry more is a pair more
pub pairs_grown : (entries : List (SmallVec ℕ × ℕ)) (table : List (List ℕ × ℕ)) (name : List ℕ) (key : SmallVec ℕ) (number : ℕ)
    → pairs entries ≡ table → key.items ≡ name → pairs (entries ++ (key, number) ∷ []) ≡ table ++ (name, number) ∷ []
pairs_grown entries table name key number same spelled =
    map-append _ entries ((key, number) ∷ [])
    ∙ ap (λ front. front ++ (key.items, number) ∷ []) same
    ∙ ap (λ bytes. table ++ (bytes, number) ∷ []) spelled

-- the pairs from a place on: the one that stands there, and then the others
pub found_from : (name : List ℕ) (entries : List (SmallVec ℕ × ℕ)) (place : ℕ) (key : SmallVec ℕ) (number : ℕ) → slice_get entries place ≡ Some (key, number)
    → number_of (pairs (drop place entries)) name ≡ cond (bytes_eq name key.items) (Some number) (number_of (pairs (drop (suc place) entries)) name)
found_from name [] place key number at = absurd (cc)
found_from name (entry ∷ entries) zero key number at =
    let same : entry ≡ (key, number) = ap (λ found. unwrap_or found entry) at in
    ap (λ e. number_of (pairs (e ∷ entries)) name) same
found_from name (entry ∷ entries) (suc place) key number at = found_from name entries place key number at

pub number_past : (name : List ℕ) (entries : List (SmallVec ℕ × ℕ)) (place : ℕ) → slice_get entries place ≡ None
    → number_of (pairs (drop place entries)) name ≡ number_of (pairs (drop (suc place) entries)) name
number_past name [] zero past = refl
number_past name [] (suc place) past = refl
number_past name (entry ∷ entries) zero past = absurd (cc)
number_past name (entry ∷ entries) (suc place) past = number_past name entries place past

-- what is put at a name, unless it is there
put_last : (pair new : List ℕ × ℕ) (table : List (List ℕ × ℕ)) (known : Bool)
    → pair ∷ (if known then table else table ++ new ∷ []) ≡ (if known then pair ∷ table else (pair ∷ table) ++ new ∷ [])
put_last pair new table true = refl
put_last pair new table false = refl

pub pairs_put : (name : SmallVec ℕ) (number value : ℕ) (entries : List (SmallVec ℕ × ℕ))
    → value ≡ unwrap_or (lookup (λ key. pointwise nat_eq name.items key.items) entries) number
    → pairs (insert_entry (λ a b. pointwise nat_eq a.items b.items) entries name value) ≡ with_name (pairs entries) name.items number
pairs_put name number value [] e = ap (λ n. (name.items, n) ∷ []) e
pairs_put name number value (entry ∷ entries) e = by (bytes_eq name.items entry.0.items) (pairs_put name number value entries) e
  where
    by : (test : Bool)
        → (value ≡ unwrap_or (lookup (λ key. pointwise nat_eq name.items key.items) entries) number
        → pairs (insert_entry (λ a b. pointwise nat_eq a.items b.items) entries name value) ≡ with_name (pairs entries) name.items number)
        → value ≡ unwrap_or (cond test (Some entry.1) (lookup (λ key. pointwise nat_eq name.items key.items) entries)) number
        → pairs (cond test ((entry.0, value) ∷ entries) (entry ∷ insert_entry (λ a b. pointwise nat_eq a.items b.items) entries name value))
        ≡ (if is_some (cond test (Some entry.1) (number_of (pairs entries) name.items)) then pairs (entry ∷ entries) else pairs (entry ∷ entries) ++ (name.items, number) ∷ [])
    by true later same = ap (λ n. (entry.0.items, n) ∷ pairs entries) same
    by false later same =
        ap (λ table. (entry.0.items, entry.1) ∷ table) (later same)
        ∙ put_last (entry.0.items, entry.1) (name.items, number) (pairs entries) (is_some (number_of (pairs entries) name.items))
