-- What a visited node asks for: each place that it lacks, at most 32 past those that it holds without a gap.
use Rattle.std.proofs.Common.{◌≡◌, ℕ, zero, suc, ◌+◌, ◌<◌, ◌≤◌, List, [], ◌∷◌, take, None, Contains, sym, subst, inl, ⊎_elim, arith, ◌==◌, nat_le, le-leb, ◌∙◌}
use Rattle.std.specs.List.{filter, list_any}
use Rattle.std.specs.FinMap.{get}
use Rattle.std.proofs.lemmas.Option.{none-some}
use Rattle.std.proofs.lemmas.Bool.{cases_lt}
use Rattle.cpg_entry.specs.Ranges.{Ascends}
use Rattle.cpg_ring.specs.States.{HeldPlaces, is_held}
use Rattle.cpg_ring.specs.Visits.{up_to, is_wanted, next_requests}
use Rattle.cpg_ring.specs.Laws.{AllHeld}
use Rattle.cpg_ring.proofs.Lists.{contains_none}
use Rattle.cpg_ring.proofs.Asking.{contains_cons, contains_head, ascends_filter, contains_filter, passes}
use Rattle.cpg_ring.proofs.Amounts.{holds_of, and_parts, and_whole, is_some_of}

-- of a list in ascending order, the first so many have all that lie no further past its lower bound
take_has : (low high : ℕ) (xs : List ℕ) (count place : ℕ) → Ascends low high xs → Contains xs place → place ≤ low + count → Contains (take count xs) place
take_has low high [] count place a c l = absurd (contains_none place c)
take_has low high (x ∷ xs) zero place a c l = ⊎_elim
    (λ (same : x ≡ place). let k = a.0 in absurd (omega arith))
    (λ later. let k = a.0 in absurd (contains_none place (take_has x high xs zero place a.2 later (omega arith))))
    (contains_cons x place xs c)
take_has low high (x ∷ xs) (suc count) place a c l = ⊎_elim
    (λ (same : x ≡ place). subst (Contains (x ∷ take count xs)) same (contains_head x (take count xs)))
    (λ later. let k = a.0 in let d = take_has x high xs count place a.2 later (omega arith) in let b = d.1 in (suc d.0, omega arith, d.2))
    (contains_cons x place xs c)

-- a lower bound that all are above
raised : (low high : ℕ) (xs : List ℕ) → Ascends 0 high xs → ((place : ℕ) → Contains xs place → low < place) → Ascends low high xs
raised low high [] a above = tt
raised low high (x ∷ xs) a above = (above x (contains_head x xs), a.1, a.2)

pub near_asked : (held : HeldPlaces) (delivered seq done place : ℕ) (asked : List ℕ) → AllHeld held done → get held place ≡ None → 1 ≤ place → place ≤ done + 32 → place ≤ delivered + 64 → place ≤ seq → Contains (next_requests held delivered seq asked) place
near_asked held delivered seq done place asked all lacks low near window high =
    take_has done seq wanted 32 place
    (raised done seq wanted (ascends_filter (is_wanted held delivered asked) seq) above)
    (contains_filter (is_wanted held delivered asked) seq place low high
    (and_whole (is_held held place) (nat_le place (delivered + 64)) (list_any (λ p. p == place) asked)
    (λ held'. let h = holds_of held place held' in none-some h.0 (sym lacks ∙ h.1))
    (inl (le-leb place (delivered + 64) window))))
    near
  where
    wanted : List ℕ
    wanted = filter (is_wanted held delivered asked) (up_to seq)

    above : (p : ℕ) → Contains wanted p → done < p
    above p c =
        let w = passes (is_wanted held delivered asked) seq p c in
        let parts = and_parts (is_held held p) (nat_le p (delivered + 64)) (list_any (λ q. q == p) asked) w.2 in
        ⊎_elim
        (λ (more : done < p). more)
        (λ (less : p ≤ done). absurd (parts.0 (is_some_of held p (all p w.0 less))))
        (cases_lt done p)
