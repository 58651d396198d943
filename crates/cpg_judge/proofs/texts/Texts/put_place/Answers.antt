use Rattle.std.proofs.Common.{ap, sym, ◌∙◌}
use Rattle.cpg_record.specs.Judging.{judged}
use Rattle.cpg_judge.specs.Texts.{TextValue, told_text}
use Rattle.cpg_judge.proofs.Gathered as gathered
use Rattle.cpg_record.proofs.Named.{on_ok}
use Rattle.cpg_judge.proofs.Shown as shown
use Rattle.cpg_judge.proofs.texts.Texts.put_place.Goals as goal

pub returns-in-None-clause-ok : goal.returns-in-None-clause-ok
returns-in-None-clause-ok c =
    on_ok c.put_audit.result (λ put. gathered.without_group (judged c.args.placed.now.policy.now) c.args.placed.now.place c.args.placed.now.past.now c.requires.place.0 c.requires.stands c.args.self.now c.requires.texts c.in-None.is) c.put_audit.ensures.ok

pub returns-in-None-clause-shown : goal.returns-in-None-clause-shown
returns-in-None-clause-shown c =
    on_ok c.put_audit.result (λ put. shown.without_group c.args.placed.now.policy.now c.args.placed.now.place c.args.placed.now.past.now c.requires.place.0 c.requires.stands c.args.self.now c.requires.shown c.in-None.is) c.put_audit.ensures.ok

pub put_allowed-requires-clause-allowed : goal.put_allowed-requires-clause-allowed
put_allowed-requires-clause-allowed c =
    (c.requires.place.0, c.requires.place.1, c.requires.stands, c.in-Some.is, sym c.is_allowed.ensures ∙ c.if-is_allowed.true)

pub put_allowed-requires-clause-members : goal.put_allowed-requires-clause-members
put_allowed-requires-clause-members c =
    shown.members_shown c.args.placed.now.policy.now c.args.placed.now.place c.args.placed.now.past.now c.requires.place.0 c.requires.stands c.args.self.now c.requires.shown c.in-Some.name (told_text (judged c.args.placed.now.policy.now) c.args.placed.now.place)
    c.in-Some.is

pub put_audit_with-requires : goal.put_audit_with-requires
put_audit_with-requires c =
    shown.listed c.args.placed.now.policy.now c.args.placed.now.place c.args.placed.now.past.now c.requires.place.0 c.requires.stands c.args.self.now c.in-Some.name c.members.result.now
    (shown.not_allowed c.args.placed.now.policy.now c.args.placed.now.place c.args.placed.now.past.now c.requires.place.0 c.requires.stands c.args.self.now c.requires.shown (sym c.is_allowed.ensures ∙ c.if-is_allowed.false))
    c.in-Some.is (c.members.ensures ∙ ap (λ (value : TextValue). value.members) c.of.ensures)

pub returns-then-is_allowed-clause-ok : goal.returns-then-is_allowed-clause-ok
returns-then-is_allowed-clause-ok c =
    on_ok c.put_allowed.result
    (λ grown. gathered.one_told (judged c.args.placed.now.policy.now) c.args.placed.now.place c.args.placed.now.past.now c.requires.place.0 c.requires.stands c.args.self.now c.requires.texts
    c.put_allowed.new.self c.in-Some.name c.in-Some.is (sym c.is_allowed.ensures ∙ c.if-is_allowed.true) grown)
    c.put_allowed.ensures.ok

pub returns-then-is_allowed-clause-shown : goal.returns-then-is_allowed-clause-shown
returns-then-is_allowed-clause-shown c =
    on_ok c.put_allowed.result
    (λ grown. shown.one_shown c.args.placed.now.policy.now c.args.placed.now.place c.args.placed.now.past.now c.requires.place.0 c.requires.stands c.args.self.now c.requires.shown
    c.put_allowed.new.self c.in-Some.name (told_text (judged c.args.placed.now.policy.now) c.args.placed.now.place) c.in-Some.is (sym c.is_allowed.ensures ∙ c.if-is_allowed.true) grown)
    c.put_allowed.ensures.ok

pub returns-else-is_allowed-clause-ok : goal.returns-else-is_allowed-clause-ok
returns-else-is_allowed-clause-ok c =
    on_ok c.put_audit_with.result (λ put. gathered.not_told (judged c.args.placed.now.policy.now) c.args.placed.now.place c.args.placed.now.past.now c.requires.place.0 c.requires.stands c.args.self.now c.requires.texts (sym c.is_allowed.ensures ∙ c.if-is_allowed.false))
    c.put_audit_with.ensures.ok

pub returns-else-is_allowed-clause-shown : goal.returns-else-is_allowed-clause-shown
returns-else-is_allowed-clause-shown c =
    on_ok c.put_audit_with.result (λ put. shown.not_allowed c.args.placed.now.policy.now c.args.placed.now.place c.args.placed.now.past.now c.requires.place.0 c.requires.stands c.args.self.now c.requires.shown (sym c.is_allowed.ensures ∙ c.if-is_allowed.false))
    c.put_audit_with.ensures.ok
