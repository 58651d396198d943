-- the rules of a table, one after the other
use Rattle.std.proofs.Common.{◌≡◌, ℕ, ◌+◌, ◌<◌, Bool, true, false, cond, List, [], ◌∷◌, ◌++◌, length, take, drop, slice_get, get_or, Some, ap, ◌∙◌, append-nil, arith}
use Rattle.std.specs.Prelude.{not}
use Rattle.std.specs.List.{enumerate_from, flat_map, position_or_len}
use Rattle.std.proofs.lemmas.List.{drop_more, take_more, length-take}
use Rattle.std.proofs.lemmas.Grind.{flat_map-append}
use Rattle.std.proofs.lemmas.Option.{get_or_from_slice_get, slice_get-get_or, slice_get_within}
use Rattle.cpg_rules.specs.declared.rules.Asker.{Asker}
use Rattle.cpg_rules.specs.declared.rules.Right.{Right}
use Rattle.cpg_rules.specs.declared.rules.Rule.{Rule}
use Rattle.cpg_rules.specs.Tables.{Rules}
use Rattle.cpg_record.proofs.Growing.{enumerate_from-push}
use Rattle.cpg_why.specs.declared.findings.PassedRule.{PassedRule}
use Rattle.cpg_why.specs.Deciding.{passed_one, passed_rules}

-- ---- the first that passes a test

module _ {X : Type 0} (p : X → Bool) where
  at_front : (x : X) (xs : List X) (b : Bool) → p x ≡ b → position_or_len p (x ∷ xs) ≡ cond b 0 (1 + position_or_len p xs)
  at_front x xs true is = ap (λ (b : Bool). cond (not b) (1 + position_or_len p xs) 0) is
  at_front x xs false is = ap (λ (b : Bool). cond (not b) (1 + position_or_len p xs) 0) is

  drop_at : (xs : List X) (index : ℕ) (x : X) → slice_get xs index ≡ Some x → drop index xs ≡ x ∷ drop (index + 1) xs
  drop_at xs index x is =
      drop_more xs index x (slice_get_within xs index x is) ∙ ap (λ y. y ∷ drop (index + 1) xs) (get_or_from_slice_get xs index x x is)

  -- one that does not pass is gone by
  pub first_later : (xs : List X) (index : ℕ) (x : X) → slice_get xs index ≡ Some x → p x ≡ false → position_or_len p xs ≡ index + position_or_len p (drop index xs)
      → position_or_len p xs ≡ index + 1 + position_or_len p (drop (index + 1) xs)
  first_later xs index x stands fails so =
      let here : position_or_len p (drop index xs) ≡ 1 + position_or_len p (drop (index + 1) xs) =
      ap (position_or_len p) (drop_at xs index x stands) ∙ at_front x (drop (index + 1) xs) false fails in
      omega arith

  -- one that passes is the first
  pub first_here : (xs : List X) (index : ℕ) (x : X) → slice_get xs index ≡ Some x → p x ≡ true → position_or_len p xs ≡ index + position_or_len p (drop index xs)
      → index ≡ position_or_len p xs
  first_here xs index x stands passes so =
      let here : position_or_len p (drop index xs) ≡ 0 =
      ap (position_or_len p) (drop_at xs index x stands) ∙ at_front x (drop (index + 1) xs) true passes in
      omega arith

-- at an index within a list something stands
pub stands_at : {X : Type 0} (xs : List X) (index : ℕ) → index < length xs → (x : X) × (slice_get xs index ≡ Some x)
stands_at [] index h = absurd (omega arith)
stands_at (x ∷ xs) index h = (get_or (x ∷ xs) index x, slice_get-get_or (x ∷ xs) index x h)

-- ---- the rules that are passed

take_at : (rules : Rules) (index : ℕ) (e : ℕ × Rule) → slice_get rules index ≡ Some e → take (index + 1) rules ≡ take index rules ++ e ∷ []
take_at rules index e is =
    take_more rules index e (slice_get_within rules index e is) ∙ ap (λ x. take index rules ++ x ∷ []) (get_or_from_slice_get rules index e e is)

-- one rule more
pub passed_more : (right : Right) (asker : Asker) (rules : Rules) (index : ℕ) (e : ℕ × Rule) → slice_get rules index ≡ Some e →
    passed_rules right asker rules (index + 1) ≡ passed_rules right asker rules index ++ passed_one right asker (index, e)
passed_more right asker rules index e is =
    let f : ℕ × (ℕ × Rule) → List PassedRule = passed_one right asker in
    let within : index < length rules = slice_get_within rules index e is in
    let count : 0 + length (take index rules) ≡ index = omega (arith, length-take index rules) in
    ap (λ (es : Rules). flat_map f (enumerate_from 0 es)) (take_at rules index e is)
    ∙ ap (flat_map f) (enumerate_from-push 0 (take index rules) e)
    ∙ flat_map-append f (enumerate_from 0 (take index rules)) ((0 + length (take index rules), e) ∷ [])
    ∙ ap (λ xs. passed_rules right asker rules index ++ xs) (append-nil (f (0 + length (take index rules), e)))
    ∙ ap (λ n. passed_rules right asker rules index ++ f (n, e)) count
