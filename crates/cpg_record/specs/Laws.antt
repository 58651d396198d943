-- What follows from the definitions, in the subject's own words. Each is the contract of a function of
-- `src/laws.rt`, which has nothing to do.
use Rattle.std.specs.Prelude.{ℕ, ◌≡◌, ◌≢◌, ◌+◌, ◌≤◌, ◌↔◌, ◌&&◌, ◌==◌, Bool, true, false, List, [], ◌∷◌, ◌++◌, length, take, count_by, Some, Contains}
use Rattle.std.specs.List.{list_any, slice_get}
use Rattle.std.specs.Str.{bytes_eq}
use Rattle.cpg_entry.specs.declared.calls.Call.TheVariants.{Join}
use Rattle.cpg_entry.specs.declared.calls.Op.TheVariants.{Act}
use Rattle.cpg_entry.specs.declared.entries.Entry.{Entry}
use Rattle.cpg_record.specs.declared.connections.ConnId.{ConnId}
use Rattle.cpg_record.specs.declared.memberships.Member.{Member}
use Rattle.cpg_record.specs.declared.records.Record.{Record}
use Rattle.cpg_record.specs.Connections.{conn_of, conn_in, is_conn}
use Rattle.cpg_record.specs.Events.{events, answer}
use Rattle.cpg_record.specs.Judging.{judged, entries_of, record_of}
use Rattle.cpg_record.specs.Membership.{is_allowed, ends, Membership, memberships, members, group_of}
use Rattle.cpg_record.specs.Places.{record_at}
use Rattle.cpg_record.specs.RuleTables.{edited, rules_of}
use Rattle.cpg_record.specs.Steps.{members_after}

-- an allowed join of the connection to the group stands somewhere, and no record after it ends it
pub record InGroup (records : List Record) (conn : ConnId) (g : List ℕ) : Type 0 where
  pub before : List Record
  pub join : Record
  pub after : List Record
  pub stands : records ≡ before ++ join ∷ after
  pub by : conn ≡ conn_of join.entry
  pub joins : join.entry.op ≡ Act (Join g)
  pub allowed : is_allowed join.verdict ≡ true
  pub lasts : list_any (ends conn) after ≡ false

-- a membership of the connection in the group
abbrev pub is_membership : ConnId → List ℕ → Membership → Bool
is_membership conn g membership = is_conn conn (conn_in membership.member) && bytes_eq membership.group g

-- a connection has a membership in a group exactly where it is in it
abbrev pub MembershipsAreLastingJoins : Type 0
MembershipsAreLastingJoins = (records : List Record) (conn : ConnId) (g : List ℕ) →
    InGroup records conn g ↔ (list_any (is_membership conn g) (memberships records) ≡ true)

-- over judged records, the group that is computed for a connection is the one that it is in
abbrev pub GroupIsMembership : Type 0
GroupIsMembership = (entries : List Entry) (conn : ConnId) (g : List ℕ) →
    InGroup (judged entries) conn g ↔ (group_of (judged entries) conn ≡ Some g)

-- the members after one record more: an allowed join to the group adds one, an allowed end takes one out
abbrev pub MembersAfterOneMore : Type 0
MembersAfterOneMore = (records : List Record) (r : Record) (g : List ℕ) →
    members (records ++ r ∷ []) g ≡ members_after r g (members records g)

-- the table after one record more: an allowed edit of the group changes it, with the last place as the id
abbrev pub RulesAfterOneMore : Type 0
RulesAfterOneMore = (records : List Record) (r : Record) (g : List ℕ) →
    rules_of (records ++ r ∷ []) g ≡ edited g (rules_of records g) (1 + length records, r)

-- what a denied entry leaves: every member list, every table and every connection's group as they were,
-- and its one event is the verdict for its maker
pub record LeavesAll (records : List Record) (r : Record) : Type 0 where
  pub same_members : (g : List ℕ) → members (records ++ r ∷ []) g ≡ members records g
  pub same_rules : (g : List ℕ) → rules_of (records ++ r ∷ []) g ≡ rules_of records g
  pub same_group : (conn : ConnId) → group_of (records ++ r ∷ []) conn ≡ group_of records conn
  pub one_event : (conn : ConnId) → events (records ++ r ∷ []) (1 + length records) conn ≡ answer (1 + length records) r conn

-- a denied entry changes nothing
abbrev pub DenialChangesNothing : Type 0
DenialChangesNothing = (records : List Record) (r : Record) → is_allowed r.verdict ≡ false → LeavesAll records r

-- the records of the first entries are the first records
abbrev pub PrefixesAreJudgedAlike : Type 0
PrefixesAreJudgedAlike = (entries : List Entry) (n : ℕ) → judged (take n entries) ≡ take n (judged entries)

-- there is a record for each entry, in their order
abbrev pub EachEntryIsJudged : Type 0
EachEntryIsJudged = (entries : List Entry) → (length (judged entries) ≡ length entries) × (entries_of (judged entries) ≡ entries)

-- record i is the judgement of its entry over the records before it
abbrev pub EachIsJudgedByThoseBefore : Type 0
EachIsJudgedByThoseBefore = (entries : List Entry) (i : ℕ) (r : Record) → slice_get (judged entries) i ≡ Some r →
    (slice_get entries i ≡ Some r.entry) × (r ≡ record_of (take i (judged entries)) r.entry)

-- a record lists the members of its group with it
abbrev pub RecordsListTheirMembers : Type 0
RecordsListTheirMembers = (entries : List Entry) (place : ℕ) (r : Record) (g : List ℕ) → record_at (judged entries) place ≡ Some r → r.group ≡ Some g →
    r.members ≡ members (take place (judged entries)) g

-- a record changes the members of its own group alone
abbrev pub OthersKeepMembers : Type 0
OthersKeepMembers = (entries : List Entry) (entry : Entry) (g : List ℕ) → (record_of (judged entries) entry).group ≢ Some g →
    members (judged (entries ++ entry ∷ [])) g ≡ members (judged entries) g

-- a connection is in a group exactly where it is one of its members
abbrev pub MembersAreIn : Type 0
MembersAreIn = (entries : List Entry) (conn : ConnId) (g : List ℕ) →
    InGroup (judged entries) conn g ↔ ((member : Member) × Contains (members (judged entries) g) member × (conn_in member ≡ conn))

-- a connection has at most one membership
abbrev pub OneMembershipEach : Type 0
OneMembershipEach = (entries : List Entry) (conn : ConnId) → count_by (λ membership. is_conn conn (conn_in membership.member)) (memberships (judged entries)) ≤ 1

-- a process stands at most once in a group
abbrev pub OnceInAGroup : Type 0
OnceInAGroup = (entries : List Entry) (g : List ℕ) (node pid : ℕ) →
    count_by (λ member. (member.node == node) && (member.pid == pid)) (members (judged entries) g) ≤ 1
