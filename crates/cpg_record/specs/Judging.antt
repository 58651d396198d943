-- The records of agreed entries: each is the judgement of its entry over the records before it.
use Rattle.std.specs.Prelude.{ℕ, ◌≡◌, ◌<◌, ◌≤◌, List, [], ◌∷◌, ◌++◌, length, map, Option, Some}
use Rattle.std.specs.List.{fold}
use Rattle.cpg_entry.specs.declared.calls.Call.TheVariants.{Join, Insert, Remove}
use Rattle.cpg_entry.specs.declared.calls.Op.{Op}
use Rattle.cpg_entry.specs.declared.calls.Op.TheVariants.{Act}
use Rattle.cpg_entry.specs.declared.entries.Entry.{Entry}
use Rattle.cpg_entry.specs.declared.ranges.TheConstants.{MOST_PLACES}
use Rattle.cpg_record.specs.declared.records.Record.{Record}
use Rattle.cpg_record.specs.Connections.{conn_of}
use Rattle.cpg_record.specs.Membership.{group_of, members_in}
use Rattle.cpg_record.specs.Verdicts.{verdict}

-- the entry's group: the one that it names, else the one that its connection is in
abbrev pub entry_group : List Record → Entry → Op → Option (List ℕ)
entry_group records entry (Act (Join g)) = Some g
entry_group records entry (Act (Insert g index rule)) = Some g
entry_group records entry (Act (Remove g id)) = Some g
entry_group records entry _ = group_of records (conn_of entry)

-- the entry with its group and its verdict, the members still to come: who is a member after a record is
-- counted from entries and verdicts alone, so from this draft of it
abbrev pub draft : List Record → Entry → Record
draft records entry =
    record { entry = entry; group = entry_group records entry entry.op; verdict = verdict records entry; members = [] }

-- the record of an entry: its group, its verdict, and the members of its group with it
abbrev pub record_of : List Record → Entry → Record
record_of records entry =
    record (draft records entry) { members = members_in (records ++ draft records entry ∷ []) (entry_group records entry entry.op) }

-- the records with one entry more
abbrev pub with_judgement : List Record → Entry → List Record
with_judgement records entry = records ++ record_of records entry ∷ []

-- the records of agreed entries
abbrev pub judged : List Entry → List Record
judged entries = fold with_judgement [] entries

-- the entries of records
abbrev pub entries_of : List Record → List Entry
entries_of records = map (λ r. r.entry) records

-- how many entries are judged at most
abbrev pub most_places : ℕ
most_places = MOST_PLACES

-- the records are those of their entries
abbrev pub AreJudged : List Record → Type 0
AreJudged records = records ≡ judged (entries_of records)

-- the records are those of their entries, of which there are not too many
abbrev pub AreRecords : List Record → Type 0
AreRecords records = (length records ≤ most_places) × AreJudged records

-- the record is the judgement of its entry after those entries; past the last place there is none
abbrev pub IsNext : List Entry → Record → Type 0
IsNext entries next = (length entries < most_places) × (next ≡ record_of (judged entries) next.entry)
