-- the verdict under a table is the verdict over records that make that table
use Rattle.std.proofs.Common.{◌≡◌, ℕ, nat_le, List, length, Option, Some, refl, sym, ap, ◌∙◌}
use Rattle.std.specs.Prelude.{is_some}
use Rattle.std.proofs.lemmas.Option.{same_Some}
use Rattle.cpg_cred.specs.declared.bases.By.{By}
use Rattle.cpg_rules.specs.declared.decisions.Decision.{Decision}
use Rattle.cpg_rules.specs.declared.decisions.Decision.TheVariants as decision
use Rattle.cpg_rules.specs.declared.rules.Right.TheVariants as right
use Rattle.cpg_record.specs.declared.verdicts.Verdict.TheVariants.{Allowed}
use Rattle.cpg_rules.specs.Decision.{decide}
use Rattle.cpg_rules.specs.Tables.{Rules, without_id}
use Rattle.cpg_entry.specs.declared.calls.Call.TheVariants.{Join, Leave, Send, Insert, Remove}
use Rattle.cpg_entry.specs.declared.calls.Op.{Op}
use Rattle.cpg_entry.specs.declared.calls.Op.TheVariants.{Act, Gone}
use Rattle.cpg_entry.specs.declared.entries.Entry.{Entry}
use Rattle.cpg_entry.specs.Entries.{asker_of}
use Rattle.cpg_record.specs.declared.memberships.Member.{Member}
use Rattle.cpg_record.specs.declared.records.Record.{Record}
use Rattle.cpg_record.specs.Connections.{conn_of}
use Rattle.cpg_record.specs.Judging.{entry_group}
use Rattle.cpg_record.specs.Membership.{group_of, members}
use Rattle.cpg_record.specs.RuleTables.{rules_of}
use Rattle.cpg_record.specs.Verdicts.{decided, has_process, insert_verdict, join_verdict, leave_verdict, op_verdict, remove_verdict, send_verdict}
use Rattle.cpg_why.specs.Laws.{HasTable, TellsVerdictsUnder, TellsVerdictsWithout}
use Rattle.cpg_why.specs.Without.{join_states, join_under, send_under, verdict_under}
use Rattle.cpg_why.proofs.Before.{states}

module _ (before others : List Record) (entry : Entry) (g : List ℕ) (rules : Rules) (has : HasTable before others entry g rules) where
  same_states : (by : By) → join_states others entry g by ≡ join_states before entry g by
  same_states by =
      ap (λ (o : Option (List ℕ)). states (is_some o) (has_process entry (members others g)) (nat_le 128 (length (members others g))) by) has.same_group
      ∙ ap (λ (ms : List Member). states (is_some (group_of before (conn_of entry))) (has_process entry ms) (nat_le 128 (length ms)) by) has.same_members

  same_decided : (d : Decision) → decided d (join_states others entry g) ≡ decided d (join_states before entry g)
  same_decided (decision.Denied by) = refl
  same_decided (decision.Allowed by) = same_states by

  join_so : join_verdict others entry g ≡ join_under rules before entry g
  join_so =
      ap (λ (table : Rules). decided (decide table right.Join (asker_of entry)) (join_states others entry g)) has.table
      ∙ same_decided (decide rules right.Join (asker_of entry))

  op_so : (op : Op) → entry_group before entry op ≡ Some g → op_verdict others entry op ≡ verdict_under rules before entry op
  op_so (Act (Join h)) is =
      let same : h ≡ g = same_Some h g is in
      ap (λ (k : List ℕ). join_verdict others entry k) same ∙ join_so ∙ sym (ap (λ (k : List ℕ). join_under rules before entry k) same)
  op_so (Act Leave) is = ap leave_verdict has.same_group
  op_so (Act (Send message)) is =
      ap (send_verdict others entry) (has.same_group ∙ is)
      ∙ ap (λ (table : Rules). decided (decide table right.Send (asker_of entry)) Allowed) has.table
      ∙ sym (ap (send_under rules entry) is)
  op_so (Act (Insert h index rule)) is =
      ap (λ (k : List ℕ). insert_verdict (rules_of others k) entry index) (same_Some h g is) ∙ ap (λ (table : Rules). insert_verdict table entry index) has.table
  op_so (Act (Remove h id)) is =
      ap (λ (k : List ℕ). remove_verdict (rules_of others k) entry id) (same_Some h g is) ∙ ap (λ (table : Rules). remove_verdict table entry id) has.table
  op_so Gone is = refl

pub tells_under : TellsVerdictsUnder
tells_under before others entry g rules is has = op_so before others entry g rules has entry.op is

pub tells_without : TellsVerdictsWithout
tells_without before others entry g id is has = op_so before others entry g (without_id id (rules_of before g)) has entry.op is
