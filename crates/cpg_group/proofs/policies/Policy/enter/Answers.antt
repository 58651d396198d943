use Rattle.std.proofs.Common.{◌≡◌, ℕ, ◌+◌, ◌≤◌, ◌++◌, ◌∷◌, [], length, refl, sym, ap, subst, ◌∙◌, arith, List}
use Rattle.std.proofs.lemmas.List.{length_push, length-map}
use Rattle.cpg_record.specs.declared.records.Record.{Record}
use Rattle.cpg_record.specs.Judging.{judged, record_of, entries_of, AreRecords, most_places}
use Rattle.cpg_group.specs.Standing.{kept_group, group_past, AreStanding, CanTake}
use Rattle.cpg_group.specs.ConnectionLogs.{AreConnectionLogs}
use Rattle.cpg_group.proofs.Applying.{AreJudged-push, AreStanding-push, can_take}
use Rattle.cpg_group.proofs.policies.Policy.enter.Goals as goal

pub enter-requires-clause-entry : goal.enter-requires-clause-entry
enter-requires-clause-entry c =
    let here : c.len.result + 1 ≡ length c.self.inside.records.items + 1 = omega arith in
    let lent = sym (c.as_slice-records.ensures.value ∙ c.reserve_ahead.ensures.items) in
    let P : List Record → Type 0 = λ (rs : List Record). (g : List ℕ) → CanTake g (kept_group c.self.inside.groups g) (c.len.result + 1, record_of rs c.draft_of-past.result.entry) in (
      c.draft_of-past.ensures.members,
      subst (AreStanding c.self.inside.groups) lent c.self.invariant.1,
      subst P lent
          (can_take c.self.inside.groups c.self.inside.records.items (record_of c.self.inside.records.items c.draft_of-past.result.entry) (c.len.result + 1) c.self.invariant.1 c.self.invariant.0.1 here refl),
    )

pub invariant_of-self-in-Ok : goal.invariant_of-self-in-Ok
invariant_of-self-in-Ok c =
    let rs : List Record = c.self.inside.records.items in
    let next : Record = record_of c.self.inside.records.items c.draft_of-past.result.entry in
    let here : c.len.result + 1 ≡ length c.self.inside.records.items + 1 = omega arith in
    let lent = c.as_slice-records.ensures.value ∙ c.reserve_ahead.ensures.items in
    let longer : c.push_reserved.new.self.items ≡ rs ++ next ∷ [] =
    c.push_reserved.ensures.items ∙ ap (λ (past : List Record). past ++ c.enter.new.next ∷ []) c.reserve_ahead.ensures.items
    ∙ ap (λ (r : Record). c.self.inside.records.items ++ r ∷ []) (c.in-Ok.ensures.ok ∙ ap (λ (past : List Record). record_of past c.draft_of-past.result.entry) lent) in
    let judgement : next ≡ record_of (judged (entries_of rs)) c.draft_of-past.result.entry = ap (λ (past : List Record). record_of past c.draft_of-past.result.entry) c.self.invariant.0.1 in
    let few : length (rs ++ next ∷ []) ≤ most_places =
    omega (arith, length_push c.self.inside.records.items next, c.requires, ap length c.self.view_is, length-map c.self.inside.records.items (λ (r : Record). r.entry)) in
    let logs : AreConnectionLogs c.enter.new.logs.kept.entries (rs ++ next ∷ []) =
    subst (λ (past : List Record). AreConnectionLogs c.enter.new.logs.kept.entries (past ++ record_of past c.draft_of-past.result.entry ∷ [])) lent c.in-Ok.ensures.longer in
    let Past : List Record → Type 0 = λ (past : List Record). (g : List ℕ) → kept_group c.enter.new.groups g ≡ group_past g (kept_group c.self.inside.groups g) (c.len.result + 1, record_of past c.draft_of-past.result.entry) in
    let P : List Record → Type 0 = λ (past : List Record). AreRecords past × AreStanding c.enter.new.groups past × AreConnectionLogs c.enter.new.logs.kept.entries past in
    subst P (sym longer) (
      (few, AreJudged-push c.self.inside.records.items next c.self.invariant.0.1 judgement),
      AreStanding-push c.self.inside.groups c.enter.new.groups c.self.inside.records.items next (c.len.result + 1) c.self.invariant.1 c.self.invariant.0.1 here refl (subst Past lent c.in-Ok.ensures.past),
      logs,
    )
