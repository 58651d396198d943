-- Between a place and the next one that tells a connection anything, the connection stays in its group.
use Rattle.std.proofs.Common.{◌≡◌, ℕ, suc, ◌-◌, ◌≤◌, leb, Bool, true, false, cond, ◌||◌, List, length, take, Option, Some, None, refl, sym, ap, ◌∙◌, subst, arith}
use Rattle.std.specs.Prelude.{MatchOption}
use Rattle.std.specs.List.{slice_get}
use Rattle.std.proofs.lemmas.Bool.{leb-false}
use Rattle.cpg_record.specs.declared.connections.ConnId.{ConnId}
use Rattle.cpg_record.specs.declared.records.Record.{Record}
use Rattle.cpg_record.specs.Membership.{group_of}
use Rattle.cpg_record.specs.Nexts.{is_made_by, reaches, IsNextTold, NoneWithin, TellsNoMore}
use Rattle.cpg_record.specs.Places.{places_of, records_before, sooner, IsNextOf}
use Rattle.cpg_record.proofs.Nexts.{groups_stay, next_of_either, next_told}
use Rattle.cpg_group.specs.ConnectionLogs.{group_at}
use Rattle.cpg_group.proofs.Counted.{next_by_count}

-- no place is before the sooner of the two and not before the first
before_first : (own other place : ℕ) → sooner (Some own) (Some other) ≡ Some place → place ≤ own
before_first own other place is = by_case (leb own other) refl
  where
    by_case : (b : Bool) → leb own other ≡ b → place ≤ own
    by_case true le =
        let this : Some own ≡ Some place = sym (ap (λ (t : Bool). cond t (Some own) (Some other)) le) ∙ is in
        let same : own ≡ place = cc in
        omega (arith, same)
    by_case false more =
        let this : Some other ≡ Some place = sym (ap (λ (t : Bool). cond t (Some own) (Some other)) more) ∙ is in
        let same : other ≡ place = cc in
        let above = leb-false own other more in
        omega (arith, same, above)

-- none of its own places lies between
none_own : (rs : List Record) (conn : ConnId) (after place : ℕ) (own heard : Option ℕ) → IsNextOf (is_made_by conn) rs after own → sooner own heard ≡ Some place →
    NoneWithin (is_made_by conn) rs after (place - 1)
none_own rs conn after place None heard next is n r low high there = next (suc n) r (omega (arith, low)) there
none_own rs conn after place (Some own) None next is n r low high there =
    let same : own ≡ place = cc in
    next.2 (suc n) r (omega (arith, low)) (omega (arith, high, same)) there
none_own rs conn after place (Some own) (Some other) next is n r low high there =
    let within = before_first own other place is in
    next.2 (suc n) r (omega (arith, low)) (omega (arith, high, within)) there

-- The own place that stands after those that are passed, the join that gives the group after the last place, and the next
-- place that is heard in it, make the next place that tells anything, and the group before it.
module _ (rs : List Record) (conn : ConnId) (after passed join : ℕ) (own heard : Option ℕ) (group : Option (List ℕ))
    (counted : passed ≡ length (places_of (is_made_by conn) (take after rs))) (own_is : own ≡ slice_get (places_of (is_made_by conn) rs) passed)
    (joined : group_at rs join ≡ group_of (take after rs) conn) (group_is : group ≡ group_at rs join) (heard_is : IsNextOf (reaches group) rs after heard) where
  own_next : IsNextOf (is_made_by conn) rs after own
  own_next = next_by_count (is_made_by conn) rs after own (sym (own_is ∙ ap (slice_get (places_of (is_made_by conn) rs)) counted))

  pub next_is : (next : Option ℕ) → next ≡ sooner own heard → MatchOption next (TellsNoMore rs after conn) (IsNextTold rs after conn)
  next_is next is =
      next_told rs conn after group (sym (group_is ∙ joined)) next
      (subst (IsNextOf (λ r. is_made_by conn r || reaches group r) rs after) (sym is) (next_of_either (is_made_by conn) (reaches group) rs after own heard own_next heard_is))

  pub group_before : (place : ℕ) → Some place ≡ sooner own heard → group_at rs join ≡ group_of (records_before rs place) conn
  group_before place is =
      let above = (next_is (Some place) is).above in
      joined ∙ sym (groups_stay rs conn after (place - 1) (omega (arith, above)) (none_own rs conn after place own heard own_next (sym is)))
