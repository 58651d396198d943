-- members and records as they are printed
use Rattle.std.specs.Prelude.{ℕ, List, [], ◌++◌, map, codes, decimal, Option, Some, None}
use Rattle.std.specs.List.{enumerate_from}
use Rattle.cpg_record.specs.declared.memberships.Member.{Member}
use Rattle.cpg_record.specs.declared.records.Record.{Record}
use Rattle.cpg_text.specs.Words.{listed}
use Rattle.cpg_print.specs.Entries.{entry_text}
use Rattle.cpg_print.specs.Verdicts.{verdict_text}

-- NODE/PID
abbrev pub process_text : ℕ × ℕ → List ℕ
process_text process = decimal process.0 ++ codes "/" ++ decimal process.1

-- NODE/PID of a member
abbrev pub member_text : Member → List ℕ
member_text member = process_text (member.node, member.pid)

-- L, a list of members
abbrev pub members_text : List Member → List ℕ
members_text members = listed member_text members

-- the group and its members, where there is a group
abbrev pub group_text : Option (List ℕ) → List Member → List ℕ
group_text None members = []
group_text (Some g) members = codes " group " ++ g ++ codes " members " ++ members_text members

-- what an entry was answered, with the group
abbrev pub outcome_text : Record → List ℕ
outcome_text past = verdict_text past.verdict ++ group_text past.group past.members

-- PLACE NODE.CONN PID UID GID CALL -> VERDICT, and ` group GROUP members L` where the entry has a group
unfoldable pub audit_line : ℕ → Record → List ℕ
audit_line place past = decimal place ++ codes " " ++ entry_text past.entry ++ codes " -> " ++ outcome_text past ++ codes "\n"

-- how many records there are
abbrev pub count_line : ℕ → List ℕ
count_line count = codes "records " ++ decimal count ++ codes "\n"

-- the audit lines of records, the first of which stands at place 1
abbrev pub audit_lines : List Record → List (List ℕ)
audit_lines records = map (λ past. audit_line past.0 past.1) (enumerate_from 1 records)
