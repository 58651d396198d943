-- The places that are held are the keys of the map.
use Rattle.std.proofs.Common.{◌≡◌, ℕ, ◌+◌, ◌<◌, Bool, true, false, true≢false, nat_lt, ltb-true, eqb-true, eq-eqb, List, [], ◌∷◌, ◌++◌, length, take, Some, None, refl, sym, ap, ◌∙◌, arith, ◌||◌, option_map, get_or, append-nil}
use Rattle.std.specs.List.{list_any, cons_option}
use Rattle.std.specs.Ordering.{nat_cmp, eq_by_cmp}
use Rattle.std.specs.Cmp.{unsigned_tied}
use Rattle.std.specs.FinMap.{get, keys, contains_key-keys}
use Rattle.std.proofs.lemmas.Bool.{lt-ltb}
use Rattle.std.proofs.lemmas.List.{take_more}
use Rattle.std.proofs.lemmas.List.Elements.{filter_map-append}
use Rattle.cpg_ring.specs.Visits.{served}
use Rattle.cpg_ring.specs.States.{Settings, Entry, HeldPlaces, is_held}
use Rattle.cpg_ring.specs.Laws.{NoneAbove}
use Rattle.cpg_ring.proofs.Amounts.{holds_of}

or_right : (b : Bool) {c : Bool} → c ≡ true → (b || c) ≡ true
or_right true e = refl
or_right false e = e

key_above : (seq place : ℕ) (ks : List ℕ) → seq < place → list_any (eq_by_cmp nat_cmp place) ks ≡ true → list_any (nat_lt seq) ks ≡ true
key_above seq place [] l t = absurd (true≢false (sym t))
key_above seq place (k ∷ ks) l t = by_test (eq_by_cmp nat_cmp place k) refl t (key_above seq place ks l)
  where
    by_test : (b : Bool) → eq_by_cmp nat_cmp place k ≡ b → (b || list_any (eq_by_cmp nat_cmp place) ks) ≡ true → (list_any (eq_by_cmp nat_cmp place) ks ≡ true → list_any (nat_lt seq) ks ≡ true) → list_any (nat_lt seq) (k ∷ ks) ≡ true
    by_test true is t more = let same : place ≡ k = eqb-true place k (sym (unsigned_tied place k) ∙ is) in ap (λ b. b || list_any (nat_lt seq) ks) (lt-ltb seq k (omega arith))
    by_test false is t more = or_right (nat_lt seq k) (more t)

some_key : (seq : ℕ) (ks : List ℕ) → list_any (nat_lt seq) ks ≡ true → (k : ℕ) × (seq < k) × (list_any (eq_by_cmp nat_cmp k) ks ≡ true)
some_key seq [] t = absurd (true≢false (sym t))
some_key seq (k ∷ ks) t = by_test (nat_lt seq k) refl t (some_key seq ks)
  where
    by_test : (b : Bool) → nat_lt seq k ≡ b → (b || list_any (nat_lt seq) ks) ≡ true → (list_any (nat_lt seq) ks ≡ true → (j : ℕ) × (seq < j) × (list_any (eq_by_cmp nat_cmp j) ks ≡ true)) → (j : ℕ) × (seq < j) × (list_any (eq_by_cmp nat_cmp j) (k ∷ ks) ≡ true)
    by_test true is t more = (k, ltb-true seq k is, ap (λ b. b || list_any (eq_by_cmp nat_cmp k) ks) (unsigned_tied k k ∙ eq-eqb k k refl))
    by_test false is t more = let w = more t in (w.0, w.1, or_right (eq_by_cmp nat_cmp w.0 k) w.2)

-- where one is held above seq, a key is above it
pub above_found : (held : HeldPlaces) (seq place : ℕ) → seq < place → is_held held place ≡ true → list_any (nat_lt seq) (keys held) ≡ true
above_found held seq place l is = key_above seq place (keys held) l (sym (contains_key-keys held place) ∙ is)

-- and where none is, none
pub above_none : (held : HeldPlaces) (seq : ℕ) → NoneAbove held seq → list_any (nat_lt seq) (keys held) ≡ false
above_none held seq none = by_test (list_any (nat_lt seq) (keys held)) refl
  where
    by_test : (b : Bool) → list_any (nat_lt seq) (keys held) ≡ b → list_any (nat_lt seq) (keys held) ≡ false
    by_test true is = let w = some_key seq (keys held) is in let l = none w.0 (holds_of held w.0 (contains_key-keys held w.0 ∙ w.2)) in let k = w.1 in absurd (omega arith)
    by_test false is = is

module _ (s : Settings) (held : HeldPlaces) (asked : List ℕ) (i d : ℕ) (within : i < length asked) where
  split : served s held (take (i + 1) asked) ≡ served s held (take i asked) ++ served s held (get_or asked i d ∷ [])
  split = ap (served s held) (take_more asked i d within) ∙ filter_map-append (λ place. option_map (λ e. record { ring = s.ring; place = place; entry = e }) (get held place)) (take i asked) (get_or asked i d ∷ [])

  pub served_one : (e : Entry) → get held (get_or asked i d) ≡ Some e → served s held (take (i + 1) asked) ≡ served s held (take i asked) ++ record { ring = s.ring; place = get_or asked i d; entry = e } ∷ []
  served_one e is = split ∙ ap (λ o. served s held (take i asked) ++ cons_option (option_map (λ e. record { ring = s.ring; place = get_or asked i d; entry = e }) o) []) is

  pub served_none : get held (get_or asked i d) ≡ None → served s held (take (i + 1) asked) ≡ served s held (take i asked)
  served_none is = split ∙ (ap (λ o. served s held (take i asked) ++ cons_option (option_map (λ e. record { ring = s.ring; place = get_or asked i d; entry = e }) o) []) is ∙ append-nil _)
