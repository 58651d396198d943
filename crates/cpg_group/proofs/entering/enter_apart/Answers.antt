use Rattle.std.proofs.Common.{ap, ◌∙◌}
use Rattle.cpg_record.specs.declared.records.Record.{Record}
use Rattle.cpg_group.specs.Standing.{kept_group, group_past}
use Rattle.cpg_record.proofs.Named.{on_ok}
use Rattle.cpg_group.proofs.entering.enter_apart.Goals as goal

pub returns-clause-past : goal.returns-clause-past
returns-clause-past c =
    on_ok c.take_in.result
    (λ past. λ g. past g ∙ ap (λ (r : Record). group_past g (kept_group c.args.groups.now g) (c.args.place, r)) c.in_ok-judge_draft.ensures.ok)
    c.take_in.ensures.ok
