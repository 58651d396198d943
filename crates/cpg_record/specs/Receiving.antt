-- What connections are told, in the words of membership. Each is the contract of a function of
-- `src/laws.rt`, which has nothing to do.
use Rattle.std.specs.Prelude.{ℕ, ◌≡◌, ◌<◌, ◌≤◌, ◌↔◌, ◌⊎◌, Bool, true, false, List, [], ◌∷◌, length, take, Some, AllPairs, Contains}
use Rattle.std.specs.List.{slice_get}
use Rattle.cpg_entry.specs.declared.calls.Call.TheVariants.{Join, Leave, Send, Insert, Remove}
use Rattle.cpg_entry.specs.declared.calls.Op.{Op}
use Rattle.cpg_entry.specs.declared.calls.Op.TheVariants.{Act, Gone}
use Rattle.cpg_entry.specs.declared.entries.Entry.{Entry}
use Rattle.cpg_record.specs.declared.connections.ConnId.{ConnId}
use Rattle.cpg_record.specs.declared.events.Event.{Event}
use Rattle.cpg_record.specs.declared.events.Event.TheVariants as event
use Rattle.cpg_record.specs.declared.memberships.Member.{Member}
use Rattle.cpg_record.specs.declared.moves.Cause.{Cause}
use Rattle.cpg_record.specs.declared.moves.Cause.TheVariants as cause
use Rattle.cpg_record.specs.declared.moves.Move.{Move}
use Rattle.cpg_record.specs.declared.records.Record.{Record}
use Rattle.cpg_record.specs.declared.verdicts.Verdict.{Verdict}
use Rattle.cpg_record.specs.Connections.{conn_of, conn_in, member_of}
use Rattle.cpg_record.specs.Events.{events, inbox}
use Rattle.cpg_record.specs.Judging.{judged}
use Rattle.cpg_record.specs.Laws.{InGroup}
use Rattle.cpg_record.specs.Membership.{is_allowed, members}
use Rattle.cpg_record.specs.Places.{record_at, records_before}

-- ---- inboxes only grow

-- all the events begin as the first ones do: what was told stays told, in its order
pub record BeginsAs (first all : List Event) : Type 0 where
  pub front : take (length first) all ≡ first
  pub items : (k : ℕ) (told : Event) → slice_get first k ≡ Some told → slice_get all k ≡ Some told

-- an inbox over more records begins as it is over the first ones
abbrev pub InboxesOnlyGrow : Type 0
InboxesOnlyGrow = (records : List Record) (n : ℕ) (conn : ConnId) → BeginsAs (inbox (take n records) conn) (inbox records conn)

-- a place tells a connection at most two events, and place 0 none
abbrev pub PlacesTellAtMostTwo : Type 0
PlacesTellAtMostTwo = (records : List Record) (conn : ConnId) → ((place : ℕ) → length (events records place conn) ≤ 2) × (events records 0 conn ≡ [])

-- ---- order

-- the place that an event is of
abbrev pub place_of : Event → ℕ
place_of (event.Verdict place verdict) = place
place_of (event.Message place g node pid message) = place
place_of (event.Change place g list left joined) = place
place_of (event.RulesChanged place g) = place

-- the event is a verdict
abbrev pub is_verdict : Event → Bool
is_verdict (event.Verdict place verdict) = true
is_verdict _ = false

-- the one is told before the other: it is of an earlier place, or it is the verdict of their place
abbrev pub Precedes : Event → Event → Type 0
Precedes one other =
    (place_of one < place_of other) ⊎ ((place_of one ≡ place_of other) × (is_verdict one ≡ true) × (is_verdict other ≡ false))

-- each event is told once: they come by place, and a place's verdict comes before its news
abbrev pub ToldInOrder : Type 0
ToldInOrder = (records : List Record) (conn : ConnId) → AllPairs Precedes (inbox records conn)

-- ---- messages

-- at that place a member of the group, which is that process, was allowed to send the message
pub record IsSent (records : List Record) (place : ℕ) (g : List ℕ) (node pid : ℕ) (message : List ℕ) : Type 0 where
  pub r : Record
  pub stands : record_at records place ≡ Some r
  pub allowed : is_allowed r.verdict ≡ true
  pub sends : r.entry.op ≡ Act (Send message)
  pub by_node : r.entry.node ≡ node
  pub by_process : r.entry.pid ≡ pid
  pub by_member : InGroup (records_before records place) (conn_of r.entry) g

-- a connection receives exactly the messages that members of its group were allowed to send while it was in it
abbrev pub ReceivesExactly : Type 0
ReceivesExactly = (entries : List Entry) (conn : ConnId) (place : ℕ) (g : List ℕ) (node pid : ℕ) (message : List ℕ) →
    Contains (inbox (judged entries) conn) (event.Message place g node pid message)
    ↔ (IsSent (judged entries) place g node pid message × InGroup (records_before (judged entries) place) conn g)

-- ---- changes of groups

-- the one who left is the member of the group that the entry's connection was, with that cause
pub record HasLeft (before : List Record) (entry : Entry) (g : List ℕ) (why : Cause) (left : List Move) : Type 0 where
  pub member : Member
  pub was_in : InGroup before (conn_of entry) g
  pub was_listed : Contains (members before g) member
  pub was_it : conn_in member ≡ conn_of entry
  pub alone : left ≡ record { member = member; cause = why } ∷ []

-- who left the group and who joined it, by an allowed op
abbrev pub AreMoves : List Record → Entry → Op → List ℕ → List Move → List Move → Type 0
AreMoves before entry (Act (Join h)) g left joined = (h ≡ g) × (left ≡ []) × (joined ≡ record { member = member_of entry; cause = cause.Join } ∷ [])
AreMoves before entry (Act Leave) g left joined = HasLeft before entry g cause.Leave left × (joined ≡ [])
AreMoves before entry Gone g left joined = HasLeft before entry g cause.Down left × (joined ≡ [])
AreMoves before entry _ g left joined = ⊥

-- at that place the group changed so: its members after it, those who left it and those who joined it
pub record IsChange (records : List Record) (place : ℕ) (g : List ℕ) (list : List Member) (left joined : List Move) : Type 0 where
  pub r : Record
  pub stands : record_at records place ≡ Some r
  pub allowed : is_allowed r.verdict ≡ true
  pub moves : AreMoves (records_before records place) r.entry r.entry.op g left joined
  pub after : list ≡ members (take place records) g

-- a connection is told exactly the changes of the group that it is in, before them or with them
abbrev pub HearsChangesExactly : Type 0
HearsChangesExactly = (entries : List Entry) (conn : ConnId) (place : ℕ) (g : List ℕ) (list : List Member) (left joined : List Move) →
    Contains (inbox (judged entries) conn) (event.Change place g list left joined)
    ↔ (IsChange (judged entries) place g list left joined
    × (InGroup (records_before (judged entries) place) conn g ⊎ InGroup (take place (judged entries)) conn g))

-- ---- edits of tables

-- the op edits the table of the group
abbrev pub EditsTable : Op → List ℕ → Type 0
EditsTable (Act (Insert h index rule)) g = h ≡ g
EditsTable (Act (Remove h id)) g = h ≡ g
EditsTable _ g = ⊥

-- at that place the table of the group was allowed to be edited
pub record IsEdit (records : List Record) (place : ℕ) (g : List ℕ) : Type 0 where
  pub r : Record
  pub stands : record_at records place ≡ Some r
  pub allowed : is_allowed r.verdict ≡ true
  pub edits : EditsTable r.entry.op g

-- a connection is told exactly the edits of its group's table
abbrev pub HearsEditsExactly : Type 0
HearsEditsExactly = (entries : List Entry) (conn : ConnId) (place : ℕ) (g : List ℕ) →
    Contains (inbox (judged entries) conn) (event.RulesChanged place g)
    ↔ (IsEdit (judged entries) place g × InGroup (records_before (judged entries) place) conn g)

-- ---- verdicts

-- the entry at that place is the connection's own, and that is its verdict
pub record IsVerdictOn (records : List Record) (place : ℕ) (conn : ConnId) (verdict : Verdict) : Type 0 where
  pub r : Record
  pub stands : record_at records place ≡ Some r
  pub own : conn ≡ conn_of r.entry
  pub said : r.verdict ≡ verdict

-- a connection is told exactly the verdicts on its own entries
abbrev pub HearsVerdictsExactly : Type 0
HearsVerdictsExactly = (entries : List Entry) (conn : ConnId) (place : ℕ) (verdict : Verdict) →
    Contains (inbox (judged entries) conn) (event.Verdict place verdict) ↔ IsVerdictOn (judged entries) place conn verdict
