-- Who is in which group, from the records alone. That a connection joins one group at a time, and that a
-- leave or the connection's end takes it out, is cpg_join(3) and cpg_leave(3).
use Rattle.std.specs.Prelude.{ℕ, Bool, true, false, not, ◌&&◌, List, [], ◌∷◌, ◌++◌, map, Option, Some, None, option_map, if◌then◌else◌}
use Rattle.std.specs.List.{filter, find, list_any}
use Rattle.std.specs.Str.{bytes_eq}
use Rattle.cpg_entry.specs.declared.calls.Call.TheVariants.{Join, Leave}
use Rattle.cpg_entry.specs.declared.calls.Op.{Op}
use Rattle.cpg_entry.specs.declared.calls.Op.TheVariants.{Act, Gone}
use Rattle.cpg_entry.specs.declared.entries.Entry.{Entry}
use Rattle.cpg_record.specs.declared.connections.ConnId.{ConnId}
use Rattle.cpg_record.specs.declared.memberships.Member.{Member}
use Rattle.cpg_record.specs.declared.records.Record.{Record}
use Rattle.cpg_record.specs.declared.verdicts.Verdict.{Verdict}
use Rattle.cpg_record.specs.declared.verdicts.Verdict.TheVariants.{Allowed, Denied}
use Rattle.cpg_record.specs.Connections.{conn_of, conn_in, is_conn, member_of}

-- the verdict allows its entry
abbrev pub is_allowed : Verdict → Bool
is_allowed (Allowed by) = true
is_allowed (Denied reason) = false

-- a leave and a connection's end take the connection out of its group
abbrev pub is_end : Op → Bool
is_end (Act Leave) = true
is_end Gone = true
is_end _ = false

-- the record is an allowed leave or end of that connection
abbrev pub ends : ConnId → Record → Bool
ends conn r = is_allowed r.verdict && is_end r.entry.op && is_conn conn (conn_of r.entry)

-- a member with its group
pub record Membership : Type 0 where
  pub group : List ℕ
  pub member : Member

-- the membership that an entry takes where it is allowed: a join's
abbrev pub taken_by_join : Entry → Op → List Membership
taken_by_join entry (Act (Join g)) = record { group = g; member = member_of entry } ∷ []
taken_by_join entry _ = []

-- the membership that a record takes: an allowed join's
abbrev pub taken : Record → List Membership
taken r = if is_allowed r.verdict then taken_by_join r.entry r.entry.op else []

-- the memberships that allowed joins took and that no later record ends, in the order of the joins
abbrev pub memberships : List Record → List Membership
memberships [] = []
memberships (r ∷ later) = filter (λ membership. not (list_any (ends (conn_in membership.member)) later)) (taken r) ++ memberships later

-- the members of a group, in the order of their joins
abbrev pub members : List Record → List ℕ → List Member
members records g = map (λ membership. membership.member) (filter (λ membership. bytes_eq membership.group g) (memberships records))

-- the members of the group that is there, and nobody where there is none
abbrev pub members_in : List Record → Option (List ℕ) → List Member
members_in records None = []
members_in records (Some g) = members records g

-- the group of the connection's first membership, if it has one; over judged records it has no other
abbrev pub group_of : List Record → ConnId → Option (List ℕ)
group_of records conn = option_map (λ membership. membership.group) (find (λ membership. is_conn conn (conn_in membership.member)) (memberships records))

-- the group is there and has that name
abbrev pub is_named : Option (List ℕ) → List ℕ → Bool
is_named None g = false
is_named (Some h) g = bytes_eq h g

-- the connection is in that group
abbrev pub is_member : List Record → ConnId → List ℕ → Bool
is_member records conn g = is_named (group_of records conn) g
