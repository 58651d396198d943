use Rattle.std.proofs.Common.{length, ap, sym, ◌∙◌}
use Rattle.cpg_record.proofs.Denials.{each_entry_is_judged}
use Rattle.cpg_judge.specs.Inboxes.{InboxValue}
use Rattle.cpg_judge.proofs.inboxes.Inbox.last.Goals as goal

pub returns : goal.returns
returns c = c.len.ensures.value ∙ ap (λ (value : InboxValue). length value.entries) c.self.view_is ∙ sym (each_entry_is_judged c.args.self.now.entries).0
