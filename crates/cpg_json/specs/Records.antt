-- the lines of records
use Rattle.std.specs.Prelude.{ℕ, List, [], ◌∷◌, ◌++◌, length, map, codes, decimal, Option, Some, None}
use Rattle.std.specs.List.{enumerate_from}
use Rattle.cpg_entry.specs.declared.entries.Entry.{Entry}
use Rattle.cpg_record.specs.declared.connections.ConnId.{ConnId}
use Rattle.cpg_record.specs.declared.memberships.Member.{Member}
use Rattle.cpg_record.specs.declared.records.Record.{Record}
use Rattle.cpg_record.specs.Connections.{conn_of}
use Rattle.cpg_json.specs.Calls.{call_fields, group_field, verdict_fields}
use Rattle.cpg_json.specs.Objects.{array, field, head_of, line, number}

-- a connection
abbrev pub conn_fields : ConnId → List (List ℕ)
conn_fields conn = number (codes "node") conn.node ∷ number (codes "connection") conn.conn ∷ []

-- who made an entry
abbrev pub caller_fields : Entry → List (List ℕ)
caller_fields entry =
    conn_fields (conn_of entry) ++ number (codes "pid") entry.pid ∷ number (codes "uid") entry.cred.uid ∷ number (codes "gid") entry.cred.gid ∷ []

-- a process, by its node and its pid
abbrev pub process_array : ℕ × ℕ → List ℕ
process_array process = array (decimal process.0 ∷ decimal process.1 ∷ [])

-- the process of a member
abbrev pub member_array : Member → List ℕ
member_array member = process_array (member.node, member.pid)

-- members in the order of their joins
abbrev pub members_field : List Member → List ℕ
members_field members = field (codes "members") (array (map member_array members))

-- the group and its members, where there is a group
abbrev pub group_fields : Option (List ℕ) → List Member → List (List ℕ)
group_fields None members = []
group_fields (Some g) members = group_field g ∷ members_field members ∷ []

-- an entry at its place
abbrev pub asked_fields : ℕ → Entry → List (List ℕ)
asked_fields place entry = number (codes "place") place ∷ caller_fields entry ++ call_fields entry.op

-- what it was answered, with the group that it is of and the members after it
abbrev pub outcome_fields : Record → List (List ℕ)
outcome_fields past = verdict_fields past.verdict ++ group_fields past.group past.members

-- a record behind its head: an entry at its place, and what it was answered
abbrev pub record_fields : List ℕ → ℕ → Record → List (List ℕ)
record_fields head place past = head_of (codes "record") head ∷ asked_fields place past.entry ++ outcome_fields past

-- its line
abbrev pub record_json : List ℕ → ℕ → Record → List ℕ
record_json head place past = line (record_fields head place past)

-- the lines of records, the first of which stands at place 1, each behind the same head
abbrev pub records_json : List ℕ → List Record → List (List ℕ)
records_json head records = map (λ past. record_json head past.0 past.1) (enumerate_from 1 records)

-- how many records there are
abbrev pub count_json : List ℕ → ℕ → List ℕ
count_json head count = line (head_of (codes "count") head ∷ number (codes "records") count ∷ [])

-- the lines of records and of their count
abbrev pub counted_json : List ℕ → List Record → List (List ℕ)
counted_json head records = records_json head records ++ count_json head (length records) ∷ []
