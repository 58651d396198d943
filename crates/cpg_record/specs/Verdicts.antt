-- The verdict on an entry over the records before it. That only members send is CPG's rule; all else is
-- this project's own. Denials are tested in the order in which they are written.
use Rattle.std.specs.Prelude.{ℕ, Bool, ◌&&◌, ◌==◌, nat_lt, nat_le, List, length, Option, Some, None, is_some, if◌then◌else◌}
use Rattle.std.specs.List.{list_any}
use Rattle.cpg_cred.specs.declared.bases.By.{By}
use Rattle.cpg_cred.specs.declared.bases.By.TheVariants as by
use Rattle.cpg_rules.specs.declared.decisions.Decision.{Decision}
use Rattle.cpg_rules.specs.declared.decisions.Decision.TheVariants as decision
use Rattle.cpg_rules.specs.declared.rules.Right.TheVariants as right
use Rattle.cpg_rules.specs.declared.tables.TheConstants.{MOST_RULES}
use Rattle.cpg_rules.specs.Decision.{decide}
use Rattle.cpg_rules.specs.Tables.{Rules, has_id}
use Rattle.cpg_entry.specs.declared.calls.Call.TheVariants.{Join, Leave, Send, Insert, Remove}
use Rattle.cpg_entry.specs.declared.calls.Op.{Op}
use Rattle.cpg_entry.specs.declared.calls.Op.TheVariants.{Act, Gone}
use Rattle.cpg_entry.specs.declared.entries.Entry.{Entry}
use Rattle.cpg_entry.specs.Entries.{asker_of}
use Rattle.cpg_record.specs.declared.limits.TheConstants.{MOST_MEMBERS}
use Rattle.cpg_record.specs.declared.memberships.Member.{Member}
use Rattle.cpg_record.specs.declared.records.Record.{Record}
use Rattle.cpg_record.specs.declared.verdicts.Reason.{Reason}
use Rattle.cpg_record.specs.declared.verdicts.Reason.TheVariants as reason
use Rattle.cpg_record.specs.declared.verdicts.Verdict.{Verdict}
use Rattle.cpg_record.specs.declared.verdicts.Verdict.TheVariants.{Allowed, Denied}
use Rattle.cpg_record.specs.Connections.{conn_of}
use Rattle.cpg_record.specs.Membership.{members, group_of}
use Rattle.cpg_record.specs.RuleTables.{rules_of}

-- the reason of a denial by a table: its rule, or the default
abbrev pub reason_of : By → Reason
reason_of (by.Rule id) = reason.Rule id
reason_of _ = reason.Default

-- what a table denies is denied, and what it allows goes on to the next test
abbrev pub decided : Decision → (By → Verdict) → Verdict
decided (decision.Allowed by) next = next by
decided (decision.Denied by) next = Denied (reason_of by)

-- the entry's process stands among the members
abbrev pub has_process : Entry → List Member → Bool
has_process entry list = list_any (λ member. (member.node == entry.node) && (member.pid == entry.pid)) list

-- a join: the right, then Joined (in a group already), Twice (its process is a member), Full
abbrev pub join_verdict : List Record → Entry → List ℕ → Verdict
join_verdict records entry g =
    decided (decide (rules_of records g) right.Join (asker_of entry)) (λ by.
    if is_some (group_of records (conn_of entry)) then Denied reason.Joined
    else if has_process entry (members records g) then Denied reason.Twice
    else if nat_le MOST_MEMBERS (length (members records g)) then Denied reason.Full
    else Allowed by)

-- a leave: Closed where the connection is in no group
abbrev pub leave_verdict : Option (List ℕ) → Verdict
leave_verdict None = Denied reason.Closed
leave_verdict (Some g) = Allowed by.Free

-- a send: Closed where the connection is in no group, then the right in its group
abbrev pub send_verdict : List Record → Entry → Option (List ℕ) → Verdict
send_verdict records entry None = Denied reason.Closed
send_verdict records entry (Some g) = decided (decide (rules_of records g) right.Send (asker_of entry)) Allowed

-- user 0 may edit every table, and the others by the right
abbrev pub edit_decision : Rules → Entry → Decision
edit_decision rules entry =
    if entry.cred.uid == 0 then decision.Allowed by.Root else decide rules right.Edit (asker_of entry)

-- an insert: the right, then Position (past the table's end), TableFull
abbrev pub insert_verdict : Rules → Entry → ℕ → Verdict
insert_verdict rules entry index =
    decided (edit_decision rules entry) (λ by.
    if nat_lt (length rules) index then Denied reason.Position
    else if nat_le MOST_RULES (length rules) then Denied reason.TableFull
    else Allowed by)

-- a remove: the right, then Absent where no rule has the id
abbrev pub remove_verdict : Rules → Entry → ℕ → Verdict
remove_verdict rules entry id =
    decided (edit_decision rules entry) (λ by. if has_id id rules then Allowed by else Denied reason.Absent)

-- the verdict on an op of the entry's connection; the end of a connection is always allowed
abbrev pub op_verdict : List Record → Entry → Op → Verdict
op_verdict records entry (Act (Join g)) = join_verdict records entry g
op_verdict records entry (Act Leave) = leave_verdict (group_of records (conn_of entry))
op_verdict records entry (Act (Send message)) = send_verdict records entry (group_of records (conn_of entry))
op_verdict records entry (Act (Insert g index rule)) = insert_verdict (rules_of records g) entry index
op_verdict records entry (Act (Remove g id)) = remove_verdict (rules_of records g) entry id
op_verdict records entry Gone = Allowed by.Free

-- the verdict on an entry over the records before it
abbrev pub verdict : List Record → Entry → Verdict
verdict records entry = op_verdict records entry entry.op
