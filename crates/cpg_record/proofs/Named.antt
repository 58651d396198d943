-- What a value that is set, or a name that is new, does to what is kept for names.
use Rattle.std.proofs.Common.{◌≡◌, ℕ, nat_eq, Bool, true, false, cond, List, [], ◌∷◌, ◌++◌, refl, sym, ap, ◌∙◌, Option, Some, None}
use Rattle.std.specs.Prelude.{◌↔◌, is_some, Result, Ok, Err, OnOk, OnErr}
use Rattle.std.specs.Cmp.Lexicographic.{pointwise}
use Rattle.std.specs.Map.{lookup, set_value}
use Rattle.std.specs.Str.{bytes_eq}
use Rattle.std.specs.declared.vec.Vec.{Vec}
use Rattle.std.proofs.lemmas.Bool.Decides.{same_from_decides, Decides-like}
use Rattle.std.proofs.lemmas.List.{map-append}
use Rattle.std.proofs.lemmas.Slice.Eq.{bytes_eq-Decides}
use Rattle.cpg_record.specs.Named.{Named, named, found_or, kept_or}

-- a test of sameness says the same either way
pub either_way : {K : Type 0} (eq : K → K → Bool) → ((x y : K) → (eq x y ≡ true) ↔ (x ≡ y)) → (x y : K) → eq x y ≡ eq y x
either_way eq decides x y = same_from_decides (eq x y) (eq y x) (decides x y) (Decides-like (eq y x) (λ same. sym same) (λ same. sym same) (decides y x))

module _ {K X : Type 0} (eq : K → K → Bool) (decides : (x y : K) → (eq x y ≡ true) ↔ (x ≡ y)) where
  -- the value that is set at a key that is there is found for it, and nothing else changes
  pub lookup-set : (es : List (K × X)) (k : K) (w : X) (q : K) → is_some (lookup (eq k) es) ≡ true →
      lookup (eq q) (set_value (eq k) es w) ≡ cond (eq k q) (Some w) (lookup (eq q) es)
  lookup-set [] k w q there = absurd (cc)
  lookup-set (e ∷ es) k w q there = by_case (eq k e.0) (eq q e.0) (eq k q) refl refl refl (lookup-set es k w q) there
    where
      by_case : (a b c : Bool) → eq k e.0 ≡ a → eq q e.0 ≡ b → eq k q ≡ c →
          (is_some (lookup (eq k) es) ≡ true → lookup (eq q) (set_value (eq k) es w) ≡ cond (eq k q) (Some w) (lookup (eq q) es)) →
          is_some (cond a (Some e.1) (lookup (eq k) es)) ≡ true →
          lookup (eq q) (cond a ((e.0, w) ∷ es) (e ∷ set_value (eq k) es w)) ≡ cond c (Some w) (cond b (Some e.1) (lookup (eq q) es))
      by_case true true true ka qa kq others h = ap (λ (x : Bool). cond x (Some w) (lookup (eq q) es)) qa
      by_case true true false ka qa kq others h =
          let t : eq k q ≡ true = (decides k q).1 ((decides k e.0).0 ka ∙ sym ((decides q e.0).0 qa)) in
          absurd (cc)
      by_case true false true ka qa kq others h =
          let t : eq q e.0 ≡ true = (decides q e.0).1 (sym ((decides k q).0 kq) ∙ (decides k e.0).0 ka) in
          absurd (cc)
      by_case true false false ka qa kq others h = ap (λ (x : Bool). cond x (Some w) (lookup (eq q) es)) qa
      by_case false true true ka qa kq others h =
          let t : eq k e.0 ≡ true = (decides k e.0).1 ((decides k q).0 kq ∙ (decides q e.0).0 qa) in
          absurd (cc)
      by_case false true false ka qa kq others h = ap (λ (x : Bool). cond x (Some e.1) (lookup (eq q) (set_value (eq k) es w))) qa
      by_case false false true ka qa kq others h =
          ap (λ (x : Bool). cond x (Some e.1) (lookup (eq q) (set_value (eq k) es w))) qa ∙ others h ∙ ap (λ (x : Bool). cond x (Some w) (lookup (eq q) es)) kq
      by_case false false false ka qa kq others h =
          ap (λ (x : Bool). cond x (Some e.1) (lookup (eq q) (set_value (eq k) es w))) qa ∙ others h ∙ ap (λ (x : Bool). cond x (Some w) (lookup (eq q) es)) kq

  -- a new key at the end is found with its value, and nothing else changes
  pub lookup-push : (es : List (K × X)) (k : K) (w : X) (q : K) → lookup (eq k) es ≡ None →
      lookup (eq q) (es ++ (k, w) ∷ []) ≡ cond (eq k q) (Some w) (lookup (eq q) es)
  lookup-push [] k w q none = ap (λ (b : Bool). cond b (Some w) None) (either_way eq decides q k)
  lookup-push (e ∷ es) k w q none = by_case (eq k e.0) (eq q e.0) (eq k q) refl refl refl (lookup-push es k w q) none
    where
      by_case : (a b c : Bool) → eq k e.0 ≡ a → eq q e.0 ≡ b → eq k q ≡ c →
          (lookup (eq k) es ≡ None → lookup (eq q) (es ++ (k, w) ∷ []) ≡ cond (eq k q) (Some w) (lookup (eq q) es)) →
          cond a (Some e.1) (lookup (eq k) es) ≡ None →
          cond b (Some e.1) (lookup (eq q) (es ++ (k, w) ∷ [])) ≡ cond c (Some w) (cond b (Some e.1) (lookup (eq q) es))
      by_case true b c ka qa kq others h = absurd (cc)
      by_case false true true ka qa kq others h =
          let t : eq k e.0 ≡ true = (decides k e.0).1 ((decides k q).0 kq ∙ (decides q e.0).0 qa) in
          absurd (cc)
      by_case false true false ka qa kq others h = refl
      by_case false false true ka qa kq others h = others h ∙ ap (λ (x : Bool). cond x (Some w) (lookup (eq q) es)) kq
      by_case false false false ka qa kq others h = others h ∙ ap (λ (x : Bool). cond x (Some w) (lookup (eq q) es)) kq

-- ---- by names

-- what is kept is found among the entries as among the names
pub found_alike : {X Z : Type 0} (name : List ℕ) (entries : List (Vec ℕ Z × X)) →
    lookup (λ key. pointwise nat_eq name key.items) entries ≡ lookup (bytes_eq name) (named entries)
found_alike name [] = refl
found_alike name (entry ∷ entries) = ap (cond (bytes_eq name entry.0.items) (Some entry.1)) (found_alike name entries)

-- and is set there as here
pub set_alike : {X Z : Type 0} (name : List ℕ) (entries : List (Vec ℕ Z × X)) (w : X) →
    named (set_value (λ key. pointwise nat_eq name key.items) entries w) ≡ set_value (bytes_eq name) (named entries) w
set_alike name [] w = refl
set_alike {X} {Z} name (entry ∷ entries) w = by_case (bytes_eq name entry.0.items) (set_alike name entries w)
  where
    by_case : (b : Bool) → named (set_value (λ key. pointwise nat_eq name key.items) entries w) ≡ set_value (bytes_eq name) (named entries) w →
        named (cond b ((entry.0, w) ∷ entries) (entry ∷ set_value (λ key. pointwise nat_eq name key.items) entries w))
        ≡ cond b ((entry.0.items, w) ∷ named entries) ((entry.0.items, entry.1) ∷ set_value (bytes_eq name) (named entries) w)
    by_case true rest = refl
    by_case false rest = ap (λ (kept : Named X). (entry.0.items, entry.1) ∷ kept) rest

-- an entry at the end is kept at the end, for the name that its key spells
pub named-push : {X Z : Type 0} (entries : List (Vec ℕ Z × X)) (kept : Named X) (name : List ℕ) (key : Vec ℕ Z) (w : X) → named entries ≡ kept → key.items ≡ name →
    named (entries ++ (key, w) ∷ []) ≡ kept ++ (name, w) ∷ []
named-push {X} entries kept name key w same spelled =
    map-append _ entries ((key, w) ∷ [])
    ∙ ap (λ (front : Named X). front ++ (key.items, w) ∷ []) same
    ∙ ap (λ (bytes : List ℕ). kept ++ (bytes, w) ∷ []) spelled

module _ {X : Type 0} (other : X) where
  found_by : (b : Bool) (w : X) (o : Option X) → found_or other (cond b (Some w) o) ≡ cond b w (found_or other o)
  found_by true w o = refl
  found_by false w o = refl

  -- what is kept for a name that had nothing is kept for that name alone
  pub kept_added : (kept : Named X) (name : List ℕ) (w : X) (g : List ℕ) → lookup (bytes_eq name) kept ≡ None →
      kept_or other (kept ++ (name, w) ∷ []) g ≡ cond (bytes_eq name g) w (kept_or other kept g)
  kept_added kept name w g none =
      ap (found_or other) (lookup-push bytes_eq bytes_eq-Decides kept name w g none) ∙ found_by (bytes_eq name g) w (lookup (bytes_eq g) kept)

  -- what is set for a name that has something is set for that name alone
  pub kept_set : (kept : Named X) (name : List ℕ) (w : X) (g : List ℕ) → is_some (lookup (bytes_eq name) kept) ≡ true →
      kept_or other (set_value (bytes_eq name) kept w) g ≡ cond (bytes_eq name g) w (kept_or other kept g)
  kept_set kept name w g there =
      ap (found_or other) (lookup-set bytes_eq bytes_eq-Decides kept name w g there) ∙ found_by (bytes_eq name g) w (lookup (bytes_eq g) kept)

  -- what grew of what was kept for a name grew for that name alone
  pub kept_grown : (kept : Named X) (name g : List ℕ) (x w : X) (grow : X → X) → x ≡ kept_or other kept name → w ≡ grow x →
      cond (bytes_eq name g) w (kept_or other kept g) ≡ cond (bytes_eq name g) (grow (kept_or other kept g)) (kept_or other kept g)
  kept_grown kept name g x w grow found is = by_case (bytes_eq name g) refl
    where
      by_case : (b : Bool) → bytes_eq name g ≡ b → cond b w (kept_or other kept g) ≡ cond b (grow (kept_or other kept g)) (kept_or other kept g)
      by_case false at = refl
      by_case true at = is ∙ ap grow (found ∙ ap (kept_or other kept) ((bytes_eq-Decides name g).0 at))

  -- what is set as it was changes nothing
  pub kept_same : (kept : Named X) (name g : List ℕ) (w : X) → w ≡ kept_or other kept name → cond (bytes_eq name g) w (kept_or other kept g) ≡ kept_or other kept g
  kept_same kept name g w is = by_case (bytes_eq name g) refl
    where
      by_case : (b : Bool) → bytes_eq name g ≡ b → cond b w (kept_or other kept g) ≡ kept_or other kept g
      by_case false at = refl
      by_case true at = is ∙ ap (kept_or other kept) ((bytes_eq-Decides name g).0 at)

-- ---- what holds after success, or after a refusal, as it follows from what does

pub on_ok : {X E : Type 0} (r : Result X E) {P Q : Type 0} → (P → Q) → OnOk r P → OnOk r Q
on_ok (Ok x) f p = f p
on_ok (Err e) f p = tt

pub on_err : {X E : Type 0} (r : Result X E) {P Q : Type 0} → (P → Q) → OnErr r P → OnErr r Q
on_err (Ok x) f p = tt
on_err (Err e) f p = f p
