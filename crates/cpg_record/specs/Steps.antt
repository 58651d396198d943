-- what one record more does to a member list and to a connection's group, and when an op can edit a table
use Rattle.std.specs.Prelude.{ℕ, ◌≡◌, ◌≢◌, ◌<◌, ◌≤◌, true, not, ◌&&◌, List, [], ◌∷◌, ◌++◌, length, All, Option, Some, None, if◌then◌else◌}
use Rattle.std.specs.List.{filter}
use Rattle.std.specs.Str.{bytes_eq}
use Rattle.cpg_rules.specs.declared.tables.TheConstants.{MOST_RULES}
use Rattle.cpg_rules.specs.Tables.{Rules}
use Rattle.cpg_entry.specs.declared.calls.Call.TheVariants.{Join, Leave, Insert}
use Rattle.cpg_entry.specs.declared.calls.Op.{Op}
use Rattle.cpg_entry.specs.declared.calls.Op.TheVariants.{Act, Gone}
use Rattle.cpg_entry.specs.declared.entries.Entry.{Entry}
use Rattle.cpg_record.specs.declared.connections.ConnId.{ConnId}
use Rattle.cpg_record.specs.declared.memberships.Member.{Member}
use Rattle.cpg_record.specs.declared.records.Record.{Record}
use Rattle.cpg_record.specs.Connections.{conn_of, conn_in, is_conn, member_of}
use Rattle.cpg_record.specs.Membership.{is_allowed, is_named}
use Rattle.cpg_record.specs.RuleTables.{named}

-- the members that are not that connection
abbrev pub without : ConnId → List Member → List Member
without conn list = filter (λ member. not (is_conn (conn_in member) conn)) list

-- the members of a group after an allowed op: a join to it adds one, an end takes its connection out
abbrev pub members_by : Entry → Op → List ℕ → List Member → List Member
members_by entry (Act (Join h)) g list = if bytes_eq h g then list ++ member_of entry ∷ [] else list
members_by entry (Act Leave) g list = without (conn_of entry) list
members_by entry Gone g list = without (conn_of entry) list
members_by entry _ g list = list

-- the members of a group after a record: a denied entry changes nothing
abbrev pub members_after : Record → List ℕ → List Member → List Member
members_after r g list = if is_allowed r.verdict then members_by r.entry r.entry.op g list else list

-- the group that is there, else the other
abbrev pub or_else : Option (List ℕ) → List ℕ → Option (List ℕ)
or_else None g = Some g
or_else (Some h) g = Some h

-- a connection's group after an allowed op of its own
abbrev pub group_by : Op → Option (List ℕ) → Option (List ℕ)
group_by (Act (Join g)) before = or_else before g
group_by (Act Leave) before = None
group_by Gone before = None
group_by _ before = before

-- a connection's group after a record: denied entries and those of others change nothing
abbrev pub group_after : Record → ConnId → Option (List ℕ) → Option (List ℕ)
group_after r conn before = if is_allowed r.verdict && is_conn conn (conn_of r.entry) then group_by r.entry.op before else before

-- the table can take a rule at the index: it reaches so far, has room, and no rule of that id
abbrev pub CanInsert : Rules → ℕ → ℕ → Type 0
CanInsert rules index id = (index ≤ length rules) × (length rules < MOST_RULES) × All (λ entry. entry.0 ≢ id) rules

-- the table can be edited by the op at that place, whose number an insert's rule has as its id
abbrev pub CanEditBy : Rules → ℕ → Op → Type 0
CanEditBy rules place (Act (Insert h index rule)) = CanInsert rules index place
CanEditBy rules place _ = Unit {0}

-- where the record edits the group's table, it can
abbrev pub CanEdit : List ℕ → Rules → ℕ × Record → Type 0
CanEdit g rules p = is_allowed p.1.verdict ≡ true → is_named (named p.1.entry.op) g ≡ true → CanEditBy rules p.0 p.1.entry.op
