-- the rule that is named, and its removal
use Rattle.std.proofs.Common.{◌≡◌, ◌≢◌, ℕ, ◌+◌, ◌<◌, ◌==◌, Bool, true, false, cond, List, [], ◌∷◌, slice_get, Option, Some, None, refl, sym, ap, ◌∙◌, arith, zero, suc}
use Rattle.std.specs.Prelude.{not, ◌&&◌}
use Rattle.std.specs.List.{filter, find, position_or_len}
use Rattle.std.proofs.lemmas.Bool.Decides.{nat_tests}
use Rattle.std.proofs.lemmas.List.Folds.{find_at}
use Rattle.std.proofs.lemmas.Option.{same_Some}
use Rattle.cpg_cred.specs.declared.bases.By.TheVariants as by
use Rattle.cpg_rules.specs.declared.rules.Asker.{Asker}
use Rattle.cpg_rules.specs.declared.rules.Effect.{Effect}
use Rattle.cpg_rules.specs.declared.rules.Effect.TheVariants.{Allow, Deny}
use Rattle.cpg_rules.specs.declared.rules.Right.{Right}
use Rattle.cpg_rules.specs.declared.rules.Right.TheVariants as right
use Rattle.cpg_rules.specs.declared.rules.Rule.{Rule}
use Rattle.cpg_rules.specs.Decision.{decide, default, matches, ruling, said_by, same_right, speaks}
use Rattle.cpg_rules.specs.Tables.{Rules, without_id}
use Rattle.cpg_why.specs.Laws.{basis_of, PassedDoNotMatch, RemovalTellsWhatDecides}

-- ---- the first that passes, of those that are kept

module _ {X : Type 0} (p q : X → Bool) where
  -- what is found among those that are kept is kept
  found_kept : (xs : List X) (e : X) → find p (filter q xs) ≡ Some e → q e ≡ true
  found_kept [] e is = absurd (cc)
  found_kept (x ∷ xs) e is = by_case (q x) (p x) refl refl (found_kept xs e) is
    where
      by_case : (kept passes : Bool) → q x ≡ kept → p x ≡ passes → (find p (filter q xs) ≡ Some e → q e ≡ true) →
          find p (cond kept (x ∷ filter q xs) (filter q xs)) ≡ Some e → q e ≡ true
      by_case false passes k h more so = more so
      by_case true true k h more so =
          let same : x ≡ e = same_Some x e (sym (ap (λ (b : Bool). cond b (Some x) (find p (filter q xs))) h) ∙ so) in
          ap q (sym same) ∙ k
      by_case true false k h more so = more (sym (ap (λ (b : Bool). cond b (Some x) (find p (filter q xs))) h) ∙ so)

  -- the first is found again where it is kept
  kept_found : (xs : List X) (e : X) → find p xs ≡ Some e → q e ≡ true → find p (filter q xs) ≡ Some e
  kept_found [] e is keeps = absurd (cc)
  kept_found (x ∷ xs) e is keeps = by_case (q x) (p x) refl refl (λ h. kept_found xs e h keeps) is
    where
      by_case : (kept passes : Bool) → q x ≡ kept → p x ≡ passes → (find p xs ≡ Some e → find p (filter q xs) ≡ Some e) →
          cond passes (Some x) (find p xs) ≡ Some e → find p (cond kept (x ∷ filter q xs) (filter q xs)) ≡ Some e
      by_case true true k h more so = ap (λ (b : Bool). cond b (Some x) (find p (filter q xs))) h ∙ so
      by_case true false k h more so = ap (λ (b : Bool). cond b (Some x) (find p (filter q xs))) h ∙ more so
      by_case false true k h more so =
          let same : q x ≡ true = ap q (same_Some x e so) ∙ keeps in
          absurd (cc)
      by_case false false k h more so = more so

  -- one that stands before the first does not pass
  before_first : (xs : List X) (index : ℕ) (x : X) → slice_get xs index ≡ Some x → index < position_or_len p xs → p x ≡ false
  before_first [] index x is h = absurd (cc)
  before_first (y ∷ ys) zero x is h = by_case (p y) refl h
    where
      by_case : (b : Bool) → p y ≡ b → 0 < cond (not b) (1 + position_or_len p ys) 0 → p x ≡ false
      by_case true test below = absurd (omega arith)
      by_case false test below = ap p (sym (same_Some y x is)) ∙ test
  before_first (y ∷ ys) (suc index) x is h = by_case (p y) (before_first ys index x is) h
    where
      by_case : (b : Bool) → (index < position_or_len p ys → p x ≡ false) → suc index < cond (not b) (1 + position_or_len p ys) 0 → p x ≡ false
      by_case true more below = absurd (omega arith)
      by_case false more below = more (omega arith)

-- ---- decisions

-- the first rule that speaks decides
pub named_decides : (rules : Rules) (r : Right) (asker : Asker) → decide rules r asker ≡ said_by r (slice_get rules (position_or_len (speaks r asker) rules))
named_decides rules r asker = ap (said_by r) (find_at (speaks r asker) rules)

pub basis_ruling : (effect : Effect) (id : ℕ) → basis_of (ruling effect id) ≡ by.Rule id
basis_ruling Allow id = refl
basis_ruling Deny id = refl

pub no_rule : (r : Right) (id : ℕ) → basis_of (default r) ≢ by.Rule id
no_rule right.Join id is = absurd (cc)
no_rule right.Send id is = absurd (cc)
no_rule right.List id is = absurd (cc)
no_rule right.Edit id is = absurd (cc)

pub same_rule : (a b : ℕ) → by.Rule a ≡ by.Rule b → a ≡ b
same_rule a b is = cc

not_eqb : (a b : ℕ) → a ≢ b → not (a == b) ≡ true
not_eqb a b h = grind (arith, nat_tests)

eqb_not : (a b : ℕ) → not (a == b) ≡ true → a ≢ b
eqb_not a b h = grind (arith, nat_tests)

without_it : (rules : Rules) (r : Right) (asker : Asker) (id : ℕ) → basis_of (decide (without_id id rules) r asker) ≢ by.Rule id
without_it rules r asker id = by_found (find (speaks r asker) (without_id id rules)) refl
  where
    by_found : (o : Option (ℕ × Rule)) → find (speaks r asker) (without_id id rules) ≡ o → basis_of (said_by r o) ≢ by.Rule id
    by_found None is = no_rule r id
    by_found (Some entry) is = λ named.
        eqb_not entry.0 id (found_kept (speaks r asker) (λ e. not (e.0 == id)) rules entry is)
        (same_rule entry.0 id (sym (basis_ruling entry.1.effect entry.0) ∙ named))

without_another : (rules : Rules) (r : Right) (asker : Asker) (id : ℕ) → basis_of (decide rules r asker) ≡ by.Rule id → (other : ℕ) → other ≢ id →
    decide (without_id other rules) r asker ≡ decide rules r asker
without_another rules r asker id named other differs = by_found (find (speaks r asker) rules) refl named
  where
    by_found : (o : Option (ℕ × Rule)) → find (speaks r asker) rules ≡ o → basis_of (said_by r o) ≡ by.Rule id →
        decide (without_id other rules) r asker ≡ decide rules r asker
    by_found None is so = absurd (no_rule r id so)
    by_found (Some entry) is so =
        let same : entry.0 ≡ id = same_rule entry.0 id (sym (basis_ruling entry.1.effect entry.0) ∙ so) in
        let keeps : not (entry.0 == other) ≡ true = not_eqb entry.0 other (λ h. differs (sym h ∙ same)) in
        ap (said_by r) (kept_found (speaks r asker) (λ e. not (e.0 == other)) rules entry is keeps ∙ sym is)

pub removal_tells : RemovalTellsWhatDecides
removal_tells rules r asker id named = record { without_it = without_it rules r asker id; without_another = without_another rules r asker id named }

-- ---- the rules that are passed

right_not : (a b : Bool) → a ≡ true → a && b ≡ false → b ≡ false
right_not true b is h = h
right_not false b is h = absurd (cc)

pub passed_do_not_match : PassedDoNotMatch
passed_do_not_match rules r asker index entry is below has =
    right_not (same_right entry.1.right r) (matches entry.1.who asker) has (before_first (speaks r asker) (speaks r asker) rules index entry is below)
