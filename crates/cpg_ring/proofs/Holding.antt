-- What a node holds, after one place and after a burst.
use Rattle.std.proofs.Common.{◌≡◌, ◌≢◌, ◌⊎◌, ℕ, zero, suc, cond, List, [], ◌∷◌, ◌++◌, length, Option, Some, None, refl, sym, ap, ◌∙◌, subst, inl, inr, ⊎_elim, arith, eqb, eq-eqb, ne_eqb, append_assoc, append-nil}
use Rattle.std.proofs.lemmas.Option.{none-some, same_Some}
use Rattle.std.proofs.lemmas.Bool.{cases_eq}
use Rattle.std.specs.Cmp.{nat_cmp_total, unsigned_tied}
use Rattle.std.specs.FinMap.{get, insert, get-insert}
use Rattle.cpg_ring.specs.States.{Entry, Settings, HeldPlaces}
use Rattle.cpg_ring.specs.Visits.{placed, hold_all}
use Rattle.cpg_ring.specs.Worlds.{item}
use Rattle.cpg_ring.proofs.Lists.{item_front, item_within, get_end}

get_put : (m : HeldPlaces) (k : ℕ) (v : Entry) (q : ℕ) → get (insert m k v) q ≡ cond (eqb q k) (Some v) (get m q)
get_put m k v q = get-insert nat_cmp_total m k v q ∙ ap (λ b. cond b (Some v) (get m q)) (unsigned_tied q k)

pub put_same : (m : HeldPlaces) (k : ℕ) (v : Entry) → get (insert m k v) k ≡ Some v
put_same m k v = get_put m k v k ∙ ap (λ b. cond b (Some v) (get m k)) (eq-eqb k k refl)

pub put_other : (m : HeldPlaces) (k : ℕ) (v : Entry) (q : ℕ) → q ≢ k → get (insert m k v) q ≡ get m q
put_other m k v q h = get_put m k v q ∙ ap (λ b. cond b (Some v) (get m q)) (ne_eqb q k h)

pub put_cases : (m : HeldPlaces) (k : ℕ) (v : Entry) (q : ℕ) (x : Entry) → get (insert m k v) q ≡ Some x → ((q ≡ k) × (v ≡ x)) ⊎ (get m q ≡ Some x)
put_cases m k v q x e = ⊎_elim
    (λ h. inl (h, same_Some v x (sym (put_same m k v) ∙ subst (λ p. get (insert m k v) p ≡ Some x) h e)))
    (λ h. inr (sym (put_other m k v q h) ∙ e))
    (cases_eq q k)

-- what is held is what the list has there
pub record Agrees (held : HeldPlaces) (A : List Entry) : Type 0 where
  pub at : (place : ℕ) (e : Entry) → get held place ≡ Some e → item A place ≡ Some e

-- and nothing that was held is lost
pub record Grows (old new : HeldPlaces) : Type 0 where
  pub at : (place : ℕ) (e : Entry) → get old place ≡ Some e → get new place ≡ Some e

pub put_agrees : (held : HeldPlaces) (A : List Entry) (place : ℕ) (e : Entry) → Agrees held A → item A place ≡ Some e → Agrees (insert held place e) A
put_agrees held A place e h is = record {
  at = λ q x g. ⊎_elim (λ t. subst (λ p. item A p ≡ Some x) (sym t.0) (is ∙ ap Some t.1)) (λ t. h.at q x t) (put_cases held place e q x g);
}

pub put_grows : (held : HeldPlaces) (place : ℕ) (e : Entry) → get held place ≡ None → Grows held (insert held place e)
put_grows held place e none = record {
  at = λ q x g. put_other held place e q (λ same. none-some x (sym none ∙ (subst (λ p. get held p ≡ Some x) same g))) ∙ g;
}

agrees_front : (held : HeldPlaces) (A B : List Entry) → Agrees held A → Agrees held (A ++ B)
agrees_front held A B h = record { at = λ q x g. item_front A B q x (h.at q x g) }

-- past the end of what it agrees with nothing is held
none_past : (held : HeldPlaces) (A : List Entry) → Agrees held A → (o : Option Entry) → get held (suc (length A)) ≡ o → o ≡ None
none_past held A h None is = refl
none_past held A h (Some e) is = let w = item_within A (suc (length A)) e (h.at (suc (length A)) e is) in absurd (omega arith)

pub record Burst (held new : HeldPlaces) (A : List Entry) : Type 0 where
  pub agrees : Agrees new A
  pub grows : Grows held new

pub burst_holds : (s : Settings) (held : HeldPlaces) (A now : List Entry) (seq : ℕ) → length A ≡ seq → Agrees held A → Burst held (hold_all held (placed s seq now)) (A ++ now)
burst_holds s held A [] seq is h = record { agrees = subst (Agrees held) (sym (append-nil A)) h; grows = record { at = λ q x g. g } }
burst_holds s held A (e ∷ now) seq is h =
    let there : item (A ++ e ∷ []) (suc seq) ≡ Some e = subst (λ n. item (A ++ e ∷ []) (suc n) ≡ Some e) is (get_end A e []) in
    let fits : Agrees (insert held (suc seq) e) (A ++ e ∷ []) = put_agrees held (A ++ e ∷ []) (suc seq) e (agrees_front held A (e ∷ []) h) there in
    let rest : Burst (insert held (suc seq) e) (hold_all (insert held (suc seq) e) (placed s (suc seq) now)) ((A ++ e ∷ []) ++ now) = burst_holds s (insert held (suc seq) e) (A ++ e ∷ []) now (suc seq) (longer A e seq is) fits in
    let free : get held (suc seq) ≡ None = subst (λ n. get held (suc n) ≡ None) is (none_past held A h _ refl) in
    let grew : Grows held (insert held (suc seq) e) = put_grows held (suc seq) e free in
    record {
      agrees = subst (Agrees (hold_all (insert held (suc seq) e) (placed s (suc seq) now))) (append_assoc A (e ∷ []) now) rest.agrees;
      grows = record { at = λ q x g. rest.grows.at q x (grew.at q x g) };
    }
  where
    longer : (A : List Entry) (e : Entry) (seq : ℕ) → length A ≡ seq → length (A ++ e ∷ []) ≡ suc seq
    longer [] e seq is = ap suc is
    longer (x ∷ A) e zero is = absurd (omega arith)
    longer (x ∷ A) e (suc seq) is = ap suc (longer A e seq (omega arith))
