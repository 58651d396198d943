use Rattle.std.proofs.Common.{sym, ap, ◌∙◌, arith}
use Rattle.std.specs.Prelude.{is_some}
use Rattle.cpg_entry.specs.declared.entries.Entry.{Entry}
use Rattle.cpg_record.specs.declared.connections.ConnId.{ConnId}
use Rattle.cpg_record.specs.Connections.{conn_of}
use Rattle.cpg_record.specs.Judging.{judged}
use Rattle.cpg_record.specs.Membership.{group_of}
use Rattle.cpg_record.specs.Verdicts.{has_process}
use Rattle.cpg_why.proofs.Before.{states_full, states_none, states_twice}
use Rattle.cpg_why.proofs.without.judge_states.Goals as goal

pub returns-then-has_process : goal.returns-then-has_process
returns-then-has_process c = λ g joins.
    states_twice (judged c.args.policy.now) c.args.past.now g c.args.by c.requires joins (sym c.is_allowed.ensures ∙ c.if-is_allowed.false)
    (ap (λ (conn : ConnId). is_some (group_of (judged c.args.policy.now) conn)) (sym c.of.ensures) ∙ sym c.is_in_some.ensures ∙ c.if-is_in_some.false)
    (sym c.has_process.ensures ∙ c.if-has_process.true)

pub returns-then-len-ge-MOST_MEMBERS : goal.returns-then-len-ge-MOST_MEMBERS
returns-then-len-ge-MOST_MEMBERS c = λ g joins.
    states_full (judged c.args.policy.now) c.args.past.now g c.args.by c.requires joins (sym c.is_allowed.ensures ∙ c.if-is_allowed.false)
    (ap (λ (conn : ConnId). is_some (group_of (judged c.args.policy.now) conn)) (sym c.of.ensures) ∙ sym c.is_in_some.ensures ∙ c.if-is_in_some.false)
    (sym c.has_process.ensures ∙ c.if-has_process.false) (omega (arith, c.len.ensures))

pub returns-else-len-ge-MOST_MEMBERS : goal.returns-else-len-ge-MOST_MEMBERS
returns-else-len-ge-MOST_MEMBERS c = λ g joins.
    states_none (judged c.args.policy.now) c.args.past.now g c.args.by c.requires joins (sym c.is_allowed.ensures ∙ c.if-is_allowed.false)
    (ap (λ (conn : ConnId). is_some (group_of (judged c.args.policy.now) conn)) (sym c.of.ensures) ∙ sym c.is_in_some.ensures ∙ c.if-is_in_some.false)
    (sym c.has_process.ensures ∙ c.if-has_process.false) (omega (arith, c.len.ensures))
