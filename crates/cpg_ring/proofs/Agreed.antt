-- The agreed list of the frames sent is the list that the invariant speaks of.
use Rattle.std.proofs.Common.{◌≡◌, ◌⊎◌, ℕ, zero, suc, ◌<◌, Bool, true, false, List, [], ◌∷◌, length, take, drop, Option, Some, None, refl, sym, ap, ◌∙◌, inl, inr, ⊎_elim, arith, eq-eqb, eqb-true, slice_get, slice_index_or, if◌then◌else◌, ◌==◌, take_all}
use Rattle.std.specs.List.{AllByRecursion}
use Rattle.std.proofs.lemmas.Option.{none-some}
use Rattle.std.proofs.lemmas.List.Elements.{recursion_from_All, Contains-get_or}
use Rattle.cpg_entry.specs.declared.frames.Frame.TheVariants as frame
use Rattle.cpg_ring.specs.States.{Entry, Packet, Token, Frame, Settings}
use Rattle.cpg_ring.specs.Worlds.{World, item, entry_sent, if_some, entries_from, agreed}
use Rattle.cpg_ring.proofs.Invariant.{Inv, FrameFits}

no_entry : (e : Entry) → Some e ≡ None → ⊥
no_entry e h = none-some e (sym h)

fits_entry : (s : Settings) (A : List Entry) (C : List Token) (F : List Frame) (place : ℕ) → AllByRecursion (FrameFits s A C) F → (entry_sent F place ≡ item A place) ⊎ (entry_sent F place ≡ None)
fits_entry s A C [] place h = inr refl
fits_entry s A C (frame.Token t ∷ F) place h = fits_entry s A C F place h.1
fits_entry s A C (frame.Packet p ∷ F) place h = by_test (p.place == place) refl (fits_entry s A C F place h.1)
  where
    by_test : (b : Bool) → (p.place == place) ≡ b → (entry_sent F place ≡ item A place) ⊎ (entry_sent F place ≡ None) → ((if b then Some p.entry else entry_sent F place) ≡ item A place) ⊎ ((if b then Some p.entry else entry_sent F place) ≡ None)
    by_test true is rest = inl (sym h.0.1 ∙ ap (item A) (eqb-true p.place place is))
    by_test false is rest = rest

found : (F : List Frame) (p : Packet) (k : ℕ) → k < length F → slice_index_or F k (frame.Packet p) ≡ frame.Packet p → entry_sent F p.place ≡ None → ⊥
found [] p k h e none = absurd (omega arith)
found (frame.Token t ∷ F) p zero h e none = absurd (cc)
found (frame.Packet q ∷ F) p zero h e none = no_entry q.entry (sym (ap (λ b. if b then Some q.entry else entry_sent F p.place) (eq-eqb q.place p.place (ap (λ (x : Packet). x.place) same))) ∙ none)
  where
    packet_of : Frame → Packet
    packet_of (frame.Packet x) = x
    packet_of (frame.Token t) = p

    same : q ≡ p
    same = ap packet_of e
found (frame.Token t ∷ F) p (suc k) h e none = found F p k (omega arith) e none
found (frame.Packet q ∷ F) p (suc k) h e none = found F p k (omega arith) e (later (q.place == p.place) none)
  where
    later : (b : Bool) → (if b then Some q.entry else entry_sent F p.place) ≡ None → entry_sent F p.place ≡ None
    later true h = absurd (no_entry q.entry h)
    later false h = h

entry_is : (s : Settings) (w : World) (A : List Entry) (C : List Token) (L : Token) → Inv s w A C L → (place : ℕ) → entry_sent w.sent place ≡ item A place
entry_is s w A C L i place =
    ⊎_elim (λ x. x) (λ none. at_none none (item A place) refl)
    (fits_entry s A C w.sent place (recursion_from_All (FrameFits s A C) w.sent (λ k d h. i.frames (slice_index_or w.sent k d) (Contains-get_or w.sent k d h))))
  where
    at_none : entry_sent w.sent place ≡ None → (o : Option Entry) → item A place ≡ o → entry_sent w.sent place ≡ item A place
    at_none none None is = none ∙ sym is
    at_none none (Some e) is = let c = i.entries place e is in absurd (found w.sent (record { ring = s.ring; place = place; entry = e }) c.0 c.1 c.2 none)

one_more : (A : List Entry) (i more : ℕ) → if_some (slice_get A i) (take more (drop (suc i) A)) ≡ take (suc more) (drop i A)
one_more [] zero more = refl
one_more [] (suc i) more = refl
one_more (x ∷ A) zero more = refl
one_more (x ∷ A) (suc i) more = one_more A i more

entries_are : (F : List Frame) (A : List Entry) → ((place : ℕ) → entry_sent F place ≡ item A place) → (i more : ℕ) → entries_from F (suc i) more ≡ take more (drop i A)
entries_are F A h i zero = refl
entries_are F A h i (suc more) = ap (λ rest. if_some (entry_sent F (suc i)) rest) (entries_are F A h (suc i) more) ∙ (ap (λ o. if_some o (take more (drop (suc i) A))) (h (suc i)) ∙ one_more A i more)

pub agreed_is : (s : Settings) (w : World) (A : List Entry) (C : List Token) (L : Token) → Inv s w A C L → agreed w.sent ≡ A
agreed_is s w A C L i =
    let e = i.enough in
    let c = i.count in
    entries_are w.sent A (entry_is s w A C L i) 0 (length w.sent) ∙ take_all (length w.sent) A (omega arith)
