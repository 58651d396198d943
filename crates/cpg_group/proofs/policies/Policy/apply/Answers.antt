use Rattle.std.proofs.Common.{◌≡◌, ◌+◌, ◌≤◌, ◌++◌, ◌∷◌, [], length, sym, ap, subst, ◌∙◌, arith, List}
use Rattle.std.proofs.lemmas.List.{length_push, length-map}
use Rattle.cpg_record.specs.declared.records.Record.{Record}
use Rattle.cpg_record.specs.Judging.{judged, record_of, entries_of, AreRecords, most_places}
use Rattle.cpg_group.specs.Standing.{AreStanding}
use Rattle.cpg_group.specs.ConnectionLogs.{AreConnectionLogs}
use Rattle.cpg_group.proofs.Applying.{AreJudged-push, AreStanding-push, can_take}
use Rattle.cpg_group.proofs.policies.Policy.apply.Goals as goal

pub take_in-requires-clause-can : goal.take_in-requires-clause-can
take_in-requires-clause-can c =
    let same : judged c.args.self.now ≡ c.self.inside.records.items = ap judged (sym c.self.view_is) ∙ sym c.self.invariant.0.1 in
    let here : c.len.result + 1 ≡ length c.self.inside.records.items + 1 = omega arith in
    can_take c.self.inside.groups c.self.inside.records.items c.args.next (c.len.result + 1) c.self.invariant.1 c.self.invariant.0.1 here
    (c.requires.1 ∙ ap (λ (rs : List Record). record_of rs c.args.next.entry) same)

pub invariant_of-self-in-Ok : goal.invariant_of-self-in-Ok
invariant_of-self-in-Ok c =
    let rs : List Record = c.self.inside.records.items in
    let here : c.len.result + 1 ≡ length c.self.inside.records.items + 1 = omega arith in
    let same : judged c.args.self.now ≡ c.self.inside.records.items = ap judged (sym c.self.view_is) ∙ sym c.self.invariant.0.1 in
    let longer : c.push_reserved.new.self.items ≡ c.self.inside.records.items ++ c.args.next ∷ [] =
    c.push_reserved.ensures.items ∙ ap (λ rs. rs ++ c.args.next ∷ []) c.reserve_ahead.ensures.items in
    let judgement : c.args.next ≡ record_of (judged (entries_of c.self.inside.records.items)) c.args.next.entry =
    c.requires.1 ∙ ap (λ es. record_of (judged es) c.args.next.entry) (sym c.self.view_is) in
    let over : c.args.next ≡ record_of c.self.inside.records.items c.args.next.entry =
    c.requires.1 ∙ ap (λ (rs : List Record). record_of rs c.args.next.entry) same in
    let few : length (c.self.inside.records.items ++ c.args.next ∷ []) ≤ most_places =
    omega (arith, length_push c.self.inside.records.items c.args.next, c.requires.0, ap length c.self.view_is, length-map c.self.inside.records.items (λ (r : Record). r.entry)) in
    let logs : AreConnectionLogs c.take_in.new.self.kept.entries (c.self.inside.records.items ++ c.args.next ∷ []) =
    subst (λ (rs : List Record). AreConnectionLogs c.take_in.new.self.kept.entries (rs ++ c.args.next ∷ [])) (c.as_slice-records.ensures.value ∙ c.reserve_ahead.ensures.items) c.in-Ok.ensures.longer in
    let P : List Record → Type 0 = λ (rs : List Record). AreRecords rs × AreStanding c.take_in.new.groups rs × AreConnectionLogs c.take_in.new.self.kept.entries rs in
    subst P (sym longer) (
      (few, AreJudged-push c.self.inside.records.items c.args.next c.self.invariant.0.1 judgement),
      AreStanding-push c.self.inside.groups c.take_in.new.groups c.self.inside.records.items c.args.next (c.len.result + 1) c.self.invariant.1 c.self.invariant.0.1 here over c.in-Ok.ensures.ok,
      logs,
    )
