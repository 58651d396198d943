use Rattle.std.proofs.Common.{◌-◌, List, length, get_or, ap, ◌∙◌, arith}
use Rattle.cpg_record.specs.declared.records.Record.{Record}
use Rattle.cpg_record.specs.Judging.{judged}
use Rattle.cpg_record.proofs.Denials.{each_entry_is_judged}
use Rattle.cpg_judge.specs.Inboxes.{InboxValue}
use Rattle.cpg_judge.proofs.Gathered.{stands}
use Rattle.cpg_judge.proofs.inboxes.Inbox.record.Goals as goal

pub bounds-records-place : goal.bounds-records-place
bounds-records-place c = omega (arith, c.requires.0, c.requires.1, ap length c.records.ensures, ap (λ (value : InboxValue). length value.entries) c.self.view_is, (each_entry_is_judged c.self.inside.policy.now).0, (each_entry_is_judged c.args.self.now.entries).0)

pub returns : goal.returns
returns c =
    let same = c.records.ensures ∙ ap (λ (value : InboxValue). judged value.entries) c.self.view_is in
    stands (judged c.args.self.now.entries) c.args.place c.index-records-place.result c.requires.0 c.requires.1
    (c.index-records-place.is ∙ ap (λ (l : List Record). get_or l (c.args.place - 1) c.index-records-place.result) same)
