-- what decided an entry's answer, over the records before it
use Rattle.std.specs.Prelude.{ℕ, ◌&&◌, ◌==◌, Bool, List, [], ◌∷◌, length, take, slice_get, Option, Some, None, if◌then◌else◌}
use Rattle.std.specs.List.{enumerate_from, find, flat_map, position_or_len}
use Rattle.cpg_cred.specs.declared.bases.By.TheVariants as by
use Rattle.cpg_rules.specs.declared.rules.Asker.{Asker}
use Rattle.cpg_rules.specs.declared.rules.Right.{Right}
use Rattle.cpg_rules.specs.declared.rules.Right.TheVariants as right
use Rattle.cpg_rules.specs.declared.rules.Rule.{Rule}
use Rattle.cpg_rules.specs.Decision.{same_right, speaks}
use Rattle.cpg_rules.specs.Tables.{Rules}
use Rattle.cpg_entry.specs.declared.calls.Call.TheVariants.{Join, Send, Insert, Remove}
use Rattle.cpg_entry.specs.declared.calls.Op.{Op}
use Rattle.cpg_entry.specs.declared.calls.Op.TheVariants.{Act}
use Rattle.cpg_entry.specs.declared.entries.Entry.{Entry}
use Rattle.cpg_entry.specs.Entries.{asker_of}
use Rattle.cpg_record.specs.declared.connections.ConnId.{ConnId}
use Rattle.cpg_record.specs.declared.memberships.Member.{Member}
use Rattle.cpg_record.specs.declared.records.Record.{Record}
use Rattle.cpg_record.specs.declared.verdicts.Reason.TheVariants as reason
use Rattle.cpg_record.specs.declared.verdicts.Verdict.{Verdict}
use Rattle.cpg_record.specs.declared.verdicts.Verdict.TheVariants.{Allowed, Denied}
use Rattle.cpg_record.specs.Connections.{conn_in, conn_of}
use Rattle.cpg_record.specs.RuleTables.{rules_of}
use Rattle.cpg_why.specs.declared.findings.Decided.{Decided}
use Rattle.cpg_why.specs.declared.findings.Decided.TheVariants as decided
use Rattle.cpg_why.specs.declared.findings.PassedRule.{PassedRule}
use Rattle.cpg_why.specs.Moves.{last_move}
use Rattle.cpg_why.specs.Unmet.{unmet}
use Rattle.cpg_why.specs.Without.{verdict_without}

-- ---- by a table

-- a rule at its index, where it has the right; a condition of it is told that the asker does not meet
abbrev pub passed_one : Right → Asker → ℕ × (ℕ × Rule) → List PassedRule
passed_one right asker p =
    if same_right p.1.1.right right then record { index = p.0; id = p.1.0; rule = p.1.1; unmet = unmet p.1.1.who asker } ∷ [] else []

-- the same of the rule that stands at the index, if one does
abbrev pub passed_by : Right → Asker → ℕ → Option (ℕ × Rule) → List PassedRule
passed_by right asker index None = []
passed_by right asker index (Some entry) = passed_one right asker (index, entry)

-- of the first so many rules of a table those that have the right
abbrev pub passed_rules : Right → Asker → Rules → ℕ → List PassedRule
passed_rules right asker rules count = flat_map (passed_one right asker) (enumerate_from 0 (take count rules))

-- the rule at the index decides, or the right's default where none stands there
abbrev pub decided_at : List Record → Entry → Right → Rules → ℕ → Option (ℕ × Rule) → Decided
decided_at before entry right rules index None = decided.Default (record { right = right; passed = passed_rules right (asker_of entry) rules index })
decided_at before entry right rules index (Some rule) =
    decided.Rule (record {
      index = index;
      id = rule.0;
      rule = rule.1;
      rules = length rules;
      passed = passed_rules right (asker_of entry) rules index;
      without = verdict_without rules rule.0 before entry;
    })

-- the first rule of a table decides that speaks of the right and of the asker
abbrev pub decided_by_table : List Record → Entry → Right → Rules → Decided
decided_by_table before entry right rules =
    let index = position_or_len (speaks right (asker_of entry)) rules in
    decided_at before entry right rules index (slice_get rules index)

-- the right that an op needs, if it needs one
abbrev pub right_needed : Op → Option Right
right_needed (Act (Join g)) = Some right.Join
right_needed (Act (Send message)) = Some right.Send
right_needed (Act (Insert g index rule)) = Some right.Edit
right_needed (Act (Remove g id)) = Some right.Edit
right_needed _ = None

-- the table of the group decides of the right that is needed; where none is, nothing has to
abbrev pub decided_by_right : List Record → Entry → Option Right → Option (List ℕ) → Decided
decided_by_right before entry (Some right) (Some g) = decided_by_table before entry right (rules_of before g)
decided_by_right before entry _ _ = decided.Free

-- ---- by a state

-- the connection of a member that was found, else the entry's own
abbrev pub conn_found : Entry → Option Member → ConnId
conn_found entry None = conn_of entry
conn_found entry (Some member) = conn_in member

-- the connection of the member that has the entry's process
abbrev pub holder : Record → ConnId
holder r = conn_found r.entry (find (λ member. (member.node == r.entry.node) && (member.pid == r.entry.pid)) r.members)

-- the connection whose last move is told: the one that holds the process, or the entry's own
abbrev pub subject : Record → Verdict → ConnId
subject r (Denied reason.Twice) = holder r
subject r _ = conn_of r.entry

-- how many rules the table of the group has, if there is one
abbrev pub rules_in : List Record → Option (List ℕ) → ℕ
rules_in before None = 0
rules_in before (Some g) = length (rules_of before g)

-- ---- what decided

-- by the verdict; the connection moved last at that place, if it did
abbrev pub decided_by : List Record → Record → Option ℕ → Verdict → Decided
decided_by before r last (Allowed by.Root) = decided.Root
decided_by before r last (Denied reason.Closed) = decided.Closed last
decided_by before r last (Denied reason.Joined) = decided.Joined last
decided_by before r last (Denied reason.Twice) = decided.Twice (holder r) last
decided_by before r last (Denied reason.Full) = decided.Full (length r.members)
decided_by before r last (Denied reason.Position) = decided.Position (rules_in before r.group)
decided_by before r last (Denied reason.TableFull) = decided.TableFull (rules_in before r.group)
decided_by before r last (Denied reason.Absent) = decided.Absent
decided_by before r last _ = decided_by_right before r.entry (right_needed r.entry.op) r.group

-- what decided the answer of a record, over those before it
abbrev pub decided_of : List Record → Record → Decided
decided_of before r = decided_by before r (last_move before (subject r r.verdict)) r.verdict
