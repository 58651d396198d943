-- The members of a group at a place, from the latest record of its allowed entries.
use Rattle.std.proofs.Common.{◌≡◌, ℕ, suc, ◌+◌, ◌<◌, ◌≤◌, leb, Bool, true, false, ◌&&◌, List, [], take, Some, None, sym, ap, subst, ◌∙◌, arith}
use Rattle.std.specs.List.{slice_get}
use Rattle.std.specs.List.Sorted.{IsPartitionPoint}
use Rattle.std.proofs.lemmas.Option.{none-some}
use Rattle.cpg_record.specs.declared.records.Record.{Record}
use Rattle.cpg_record.specs.Judging.{entries_of, AreJudged}
use Rattle.cpg_record.specs.Membership.{is_allowed, is_named, members}
use Rattle.cpg_record.specs.Nexts.{acts_in}
use Rattle.cpg_record.specs.Places.{places_of, record_at}
use Rattle.cpg_record.proofs.Cuts.{all_themselves, low_below, quiet_from_start, quiet_since}
use Rattle.cpg_record.proofs.Changed.{records_list_their_members}
use Rattle.cpg_record.proofs.Elsewhere.{named_group}
use Rattle.cpg_record.proofs.Nexts.{members_stay}
use Rattle.cpg_record.proofs.Positions.{sound}

both : (a b : Bool) → (a && b) ≡ true → b ≡ true
both true b h = h
both false b h = absurd (cc)

module _ (rs : List Record) (are : AreJudged rs) (g : List ℕ) (ps : List ℕ) (of : ps ≡ places_of (acts_in g) rs) (last k : ℕ)
    (cut : IsPartitionPoint (λ (place : ℕ). leb place last ≡ true) (λ (place : ℕ). leb place last ≡ false) ps k) where
  stay : (low : ℕ) → low ≤ last → ((n : ℕ) (r : Record) → low ≤ n → n < last → slice_get rs n ≡ Some r → acts_in g r ≡ false) → members (take last rs) g ≡ members (take low rs) g
  stay low below quiet =
      let P : List Record → Type 0 = λ (past : List Record). ((n : ℕ) (r : Record) → low ≤ n → n < last → slice_get past n ≡ Some r → acts_in g r ≡ false) → members (take last past) g ≡ members (take low past) g in
      subst P (sym are) (members_stay (entries_of rs) g low last below) quiet

  -- the records at its places act in it, and list its members
  acting : (i place : ℕ) → slice_get ps i ≡ Some place → (r : Record) × (record_at rs place ≡ Some r) × (acts_in g r ≡ true)
  acting i place stands =
      let there = sound (acts_in g) 1 rs i place (ap (λ (xs : List ℕ). slice_get xs i) (sym of) ∙ stands) in
      let next : 1 + there.index ≡ suc there.index = omega arith in
      (there.r, ap (record_at rs) (there.counted ∙ next) ∙ there.stands, there.passes)

  lists : (place : ℕ) (r : Record) → record_at rs place ≡ Some r → acts_in g r ≡ true → r.members ≡ members (take place rs) g
  lists place r is acts =
      let P : List Record → Type 0 = λ (past : List Record). record_at past place ≡ Some r → r.group ≡ Some g → r.members ≡ members (take place past) g in
      subst P (sym are) (records_list_their_members (entries_of rs) place r g) is ((named_group r.group g).0 (both (is_allowed r.verdict) (is_named r.group g) acts))

  -- so one stands at each of its places
  pub stands_there : (i place : ℕ) → slice_get ps i ≡ Some place → record_at rs place ≡ None → ⊥
  stands_there i place stands none =
      let there = acting i place stands in
      none-some there.0 (sym none ∙ there.1)

  -- no entry of it up to the last place: nobody is in it
  pub members_none : k ≡ 0 → [] ≡ members (take last rs) g
  members_none at =
      sym (stay 0 (omega arith) (λ n r low high is. quiet_from_start (λ (place : ℕ). place) ps (acts_in g) rs (all_themselves ps ∙ of) last k cut at n r high is))

  -- else those that the latest lists
  pub members_some : (i place : ℕ) (r : Record) → k ≡ suc i → slice_get ps i ≡ Some place → record_at rs place ≡ Some r → r.members ≡ members (take last rs) g
  members_some i place r at stands is =
      let low : place ≤ last = low_below (λ (p : ℕ). p) ps (acts_in g) rs (all_themselves ps ∙ of) last k cut i place stands (omega arith) in
      lists place r is (acts (acting i place stands))
      ∙ sym (stay place low (λ n s above below there. quiet_since (λ (p : ℕ). p) ps (acts_in g) rs (all_themselves ps ∙ of) last k cut i place at stands n s above below there))
    where
      acts : (r' : Record) × (record_at rs place ≡ Some r') × (acts_in g r' ≡ true) → acts_in g r ≡ true
      acts (r', there, acts') =
          let alike : Some r' ≡ Some r = sym there ∙ is in
          let same : r' ≡ r = cc in
          subst (λ (q : Record). acts_in g q ≡ true) same acts'
