-- What a refusal, or none, tells of a token.
use Rattle.std.proofs.Common.{◌≡◌, ◌≢◌, ◌⊎◌, ℕ, ◌<◌, Bool, true, false, not, ◌||◌, List, length, Option, Some, None, Contains, refl, sym, ap, ◌∙◌, inl, inr, ⊎_elim, arith, eq-eqb, eqb-true, true≢false, if◌then◌else◌, ◌==◌, ltb-true, le-ltb, [], ◌∷◌, is_some, slice_get, nat_lt, nat_le}
use Rattle.std.specs.List.{list_any}
use Rattle.std.specs.FinMap.{get, keys, contains_key-keys}
use Rattle.std.specs.Ordering.{nat_cmp, eq_by_cmp}
use Rattle.std.specs.Cmp.{unsigned_tied}
use Rattle.std.proofs.lemmas.Bool.{lt-leb}
use Rattle.cpg_ring.specs.States.{HeldPlaces}
use Rattle.cpg_ring.proofs.Holding.{Agrees}
use Rattle.cpg_ring.proofs.Lists.{item_within}
use Rattle.std.proofs.lemmas.Option.{none-some, same_Some, slice_get_within}
use Rattle.std.proofs.lemmas.Bool.{cases_eq}
use Rattle.cpg_entry.specs.declared.frames.Frame.TheVariants as frame
use Rattle.cpg_ring.specs.States.{Entry, Token, Refusal, Settings, NodeState}
use Rattle.cpg_cred.specs.declared.refusals.Refusal.TheVariants.{Foreign, NotMine, Stale, Implausible, RingEnd}
use Rattle.cpg_ring.specs.Visits.{node_of, is_past, token_refusal}
use Rattle.cpg_ring.specs.Worlds.{World, item}
use Rattle.cpg_ring.proofs.Invariant.{Inv}

some-none : (x : Refusal) → Some x ≡ None → ⊥
some-none x e = none-some x (sym e)

none_of : (a b c d e : Bool) → (if not a then Some Foreign else if not b then Some NotMine else if c then Some Stale else if d then Some Implausible else if e then Some RingEnd else None) ≡ None → (a ≡ true) × (b ≡ true) × (c ≡ false)
none_of false b c d e h = absurd (some-none Foreign h)
none_of true false c d e h = absurd (some-none NotMine h)
none_of true true true d e h = absurd (some-none Stale h)
none_of true true false d e h = (refl, refl, refl)

past_of : (a b c d e : Bool) → a ≡ true → (b ≡ true → c ≡ true) → ((if not a then Some Foreign else if not b then Some NotMine else if c then Some Stale else if d then Some Implausible else if e then Some RingEnd else None) ≡ Some NotMine) ⊎ ((if not a then Some Foreign else if not b then Some NotMine else if c then Some Stale else if d then Some Implausible else if e then Some RingEnd else None) ≡ Some Stale)
past_of false b c d e at stale = absurd (true≢false (sym at))
past_of true false c d e at stale = inl refl
past_of true true true d e at stale = inr refl
past_of true true false d e at stale = absurd (true≢false (sym (stale refl)))

-- a token that was sent is the newest, or of a lower hop
pub newest_or_lower : (s : Settings) (w : World) (A : List Entry) (C : List Token) (L t : Token) → Inv s w A C L → Contains w.sent (frame.Token t) → (t ≡ L) ⊎ (t.hop < L.hop)
newest_or_lower s w A C L t i sent =
    let at : slice_get C t.hop ≡ Some t = (i.frames (frame.Token t) sent).1 in
    let short : t.hop < length C = slice_get_within C t.hop t at in
    let hops = i.hops in
    ⊎_elim
    (λ (same : t.hop ≡ L.hop). inl (same_Some t L (sym at ∙ (ap (slice_get C) same ∙ i.newest))))
    (λ (apart : t.hop ≢ L.hop). inr (omega arith))
    (cases_eq t.hop L.hop)

-- an accepted one is the newest, at its node
pub accepted_is_newest : (s : Settings) (w : World) (A : List Entry) (C : List Token) (L t : Token) (n : ℕ) (r : NodeState) → Inv s w A C L → Contains w.sent (frame.Token t) → item w.nodes n ≡ Some r → token_refusal s n r t ≡ None → (t ≡ L) × (node_of s t.hop ≡ n)
accepted_is_newest s w A C L t n r i sent is none =
    let parts = none_of (t.ring == s.ring) (node_of s t.hop == n) (is_past t.hop r.last_hop) (list_any (nat_lt t.seq) (keys r.held) || nat_lt s.places t.seq) (nat_le s.hops t.hop) none in
    let mine : node_of s t.hop ≡ n = eqb-true (node_of s t.hop) n parts.1 in
    (⊎_elim (λ x. x) (λ (lower : t.hop < L.hop). absurd (true≢false (sym (i.past t.hop r lower (ap (item w.nodes) mine ∙ is)) ∙ parts.2))) (newest_or_lower s w A C L t i sent), mine)

pub lower_is_refused : (s : Settings) (w : World) (A : List Entry) (C : List Token) (L t : Token) (n : ℕ) (r : NodeState) → Inv s w A C L → Contains w.sent (frame.Token t) → item w.nodes n ≡ Some r → t.hop < L.hop → (token_refusal s n r t ≡ Some NotMine) ⊎ (token_refusal s n r t ≡ Some Stale)
lower_is_refused s w A C L t n r i sent is lower =
    past_of (t.ring == s.ring) (node_of s t.hop == n) (is_past t.hop r.last_hop) (list_any (nat_lt t.seq) (keys r.held) || nat_lt s.places t.seq) (nat_le s.hops t.hop)
    (eq-eqb t.ring s.ring (i.frames (frame.Token t) sent).0)
    (λ m. i.past t.hop r lower (ap (item w.nodes) (eqb-true (node_of s t.hop) n m) ∙ is))

any_has : (f : ℕ → Bool) (ks : List ℕ) → list_any f ks ≡ true → (q : ℕ) × (f q ≡ true) × (list_any (eq_by_cmp nat_cmp q) ks ≡ true)
any_has f [] h = absurd (true≢false (sym h))
any_has f (k ∷ ks) h = by_test (f k) refl h (any_has f ks)
  where
    Found : Type 0
    Found = (q : ℕ) × (f q ≡ true) × (list_any (eq_by_cmp nat_cmp q) (k ∷ ks) ≡ true)

    later : (b c : Bool) → c ≡ true → (b || c) ≡ true
    later true c e = refl
    later false c e = e

    by_test : (b : Bool) → f k ≡ b → (b || list_any f ks) ≡ true → (list_any f ks ≡ true → (q : ℕ) × (f q ≡ true) × (list_any (eq_by_cmp nat_cmp q) ks ≡ true)) → (q : ℕ) × (f q ≡ true) × (list_any (eq_by_cmp nat_cmp q) (k ∷ ks) ≡ true)
    by_test true is t rest = (k, is, ap (λ b. b || list_any (eq_by_cmp nat_cmp k) ks) (unsigned_tied k k ∙ eq-eqb k k refl))
    by_test false is t rest = let d = rest t in (d.0, d.1, later (eq_by_cmp nat_cmp d.0 k) (list_any (eq_by_cmp nat_cmp d.0) ks) d.2)

-- no place above what the agreed list has is held
none_above : (held : HeldPlaces) (A : List Entry) (seq : ℕ) → Agrees held A → length A ≡ seq → (b : Bool) → list_any (nat_lt seq) (keys held) ≡ b → b ≡ false
none_above held A seq agrees count false is = refl
none_above held A seq agrees count true is =
    let d = any_has (nat_lt seq) (keys held) is in
    let above : seq < d.0 = ltb-true seq d.0 d.1 in
    absurd (by_value (get held d.0) refl (contains_key-keys held d.0 ∙ d.2) above)
  where
    by_value : {q : ℕ} → (o : Option Entry) → get held q ≡ o → is_some (get held q) ≡ true → seq < q → ⊥
    by_value {q} None v t l = true≢false (sym t ∙ ap is_some v)
    by_value {q} (Some e) v t l = let w = item_within A q e (agrees.at q e v) in omega arith

goes_of : (a b c d e : Bool) → a ≡ true → b ≡ true → c ≡ false → d ≡ false → (if not a then Some Foreign else if not b then Some NotMine else if c then Some Stale else if d then Some Implausible else if e then Some RingEnd else None) ≡ (if e then Some RingEnd else None)
goes_of a b c d e p q r t = rw (p, q, r, t) refl

not_past : (hop : ℕ) (o : Option ℕ) → ((h : ℕ) → o ≡ Some h → h < hop) → is_past hop o ≡ false
not_past hop None h = refl
not_past hop (Some last) h = lt-leb hop last (h last refl)

pub newest_goes : (s : Settings) (w : World) (A : List Entry) (C : List Token) (L : Token) (r : NodeState) → Inv s w A C L → item w.nodes (node_of s L.hop) ≡ Some r → token_refusal s (node_of s L.hop) r L ≡ (if nat_le s.hops L.hop then Some RingEnd else None)
newest_goes s w A C L r i is =
    let node = i.nodes (node_of s L.hop) r is in
    goes_of (L.ring == s.ring) (node_of s L.hop == node_of s L.hop) (is_past L.hop r.last_hop) (list_any (nat_lt L.seq) (keys r.held) || nat_lt s.places L.seq) (nat_le s.hops L.hop)
    (eq-eqb L.ring s.ring (i.frames (frame.Token L) (i.tokens L.hop L i.newest).1).0)
    (eq-eqb (node_of s L.hop) (node_of s L.hop) refl)
    (not_past L.hop r.last_hop node.before)
    (ap (λ b. b || nat_lt s.places L.seq) (none_above r.held A L.seq node.held i.count (list_any (nat_lt L.seq) (keys r.held)) refl) ∙ le-ltb s.places L.seq i.room)
