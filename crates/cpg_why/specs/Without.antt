-- the verdict on an entry if its group's table were another one, all else as the records make it
use Rattle.std.specs.Prelude.{ℕ, List, length, nat_le, Option, Some, None, is_some, if◌then◌else◌}
use Rattle.cpg_cred.specs.declared.bases.By.{By}
use Rattle.cpg_cred.specs.declared.bases.By.TheVariants as by
use Rattle.cpg_rules.specs.declared.rules.Right.TheVariants as right
use Rattle.cpg_rules.specs.Decision.{decide}
use Rattle.cpg_rules.specs.Tables.{Rules, without_id}
use Rattle.cpg_entry.specs.declared.calls.Call.TheVariants.{Join, Leave, Send, Insert, Remove}
use Rattle.cpg_entry.specs.declared.calls.Op.{Op}
use Rattle.cpg_entry.specs.declared.calls.Op.TheVariants.{Act, Gone}
use Rattle.cpg_entry.specs.declared.entries.Entry.{Entry}
use Rattle.cpg_entry.specs.Entries.{asker_of}
use Rattle.cpg_record.specs.declared.limits.TheConstants.{MOST_MEMBERS}
use Rattle.cpg_record.specs.declared.records.Record.{Record}
use Rattle.cpg_record.specs.declared.verdicts.Reason.TheVariants as reason
use Rattle.cpg_record.specs.declared.verdicts.Verdict.{Verdict}
use Rattle.cpg_record.specs.declared.verdicts.Verdict.TheVariants.{Allowed, Denied}
use Rattle.cpg_record.specs.Connections.{conn_of}
use Rattle.cpg_record.specs.Membership.{members, group_of}
use Rattle.cpg_record.specs.Verdicts.{decided, has_process, leave_verdict, insert_verdict, remove_verdict}

-- a join that the right allows by that: else Joined, Twice, Full
abbrev pub join_states : List Record → Entry → List ℕ → By → Verdict
join_states before entry g by =
    if is_some (group_of before (conn_of entry)) then Denied reason.Joined
    else if has_process entry (members before g) then Denied reason.Twice
    else if nat_le MOST_MEMBERS (length (members before g)) then Denied reason.Full
    else Allowed by

-- a join under that table: the right, and then the states
abbrev pub join_under : Rules → List Record → Entry → List ℕ → Verdict
join_under rules before entry g = decided (decide rules right.Join (asker_of entry)) (join_states before entry g)

-- a send under that table: Closed where the connection is in no group, then the right
abbrev pub send_under : Rules → Entry → Option (List ℕ) → Verdict
send_under rules entry None = Denied reason.Closed
send_under rules entry (Some g) = decided (decide rules right.Send (asker_of entry)) Allowed

-- the verdict on an op under that table
abbrev pub verdict_under : Rules → List Record → Entry → Op → Verdict
verdict_under rules before entry (Act (Join g)) = join_under rules before entry g
verdict_under rules before entry (Act Leave) = leave_verdict (group_of before (conn_of entry))
verdict_under rules before entry (Act (Send message)) = send_under rules entry (group_of before (conn_of entry))
verdict_under rules before entry (Act (Insert g index rule)) = insert_verdict rules entry index
verdict_under rules before entry (Act (Remove g id)) = remove_verdict rules entry id
verdict_under rules before entry Gone = Allowed by.Free

-- the verdict on an entry if the table lacked the rule of that number
abbrev pub verdict_without : Rules → ℕ → List Record → Entry → Verdict
verdict_without rules id before entry = verdict_under (without_id id rules) before entry entry.op
