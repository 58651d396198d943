use Rattle.std.proofs.Common.{true, false, ap, sym, ◌∙◌}
use Rattle.std.specs.List.{concat}
use Rattle.cpg_record.specs.Judging.{judged}
use Rattle.cpg_judge.proofs.Own.{no_group, own_acts, own_line, own_there}
use Rattle.cpg_judge.proofs.inboxes.Inbox.own_line.Goals as goal

pub returns-in-None : goal.returns-in-None
returns-in-None c =
    let made = own_there (judged c.args.self.now.entries) c.args.self.now.conn c.args.place c.record-past.result.now c.requires.own c.record-past.ensures in
    ap concat (sym (no_group (judged c.args.self.now.entries) c.args.self.now.conn c.args.place c.record-past.result.now c.record-past.ensures made c.in-None.is))

pub returns-then-is_told : goal.returns-then-is_told
returns-then-is_told c =
    let made = own_there (judged c.args.self.now.entries) c.args.self.now.conn c.args.place c.record-past.result.now c.requires.own c.record-past.ensures in
    let tells = sym c.is_told.ensures ∙ c.if-is_told.true in
    let acts = own_acts c.args.self.now.entries c.args.self.now.conn c.args.place c.record-past.result.now c.in-Some.group c.record-past.ensures made c.in-Some.is tells in
    c.told_at.ensures c.record-past.result.now c.record-past.ensures acts
    ∙ ap concat (sym (own_line c.args.self.now.entries c.args.self.now.conn c.args.place c.record-past.result.now c.in-Some.group c.record-past.ensures made c.in-Some.is true tells))

pub returns-else-is_told : goal.returns-else-is_told
returns-else-is_told c =
    let made = own_there (judged c.args.self.now.entries) c.args.self.now.conn c.args.place c.record-past.result.now c.requires.own c.record-past.ensures in
    ap concat (sym (own_line c.args.self.now.entries c.args.self.now.conn c.args.place c.record-past.result.now c.in-Some.group c.record-past.ensures made c.in-Some.is false (sym c.is_told.ensures ∙ c.if-is_told.false)))
