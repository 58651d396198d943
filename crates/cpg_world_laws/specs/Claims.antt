-- What holds of every run of events from a world that was reached.
use Rattle.std.specs.Prelude.{◌≡◌, ◌≢◌, ◌⊎◌, ◌↔◌, ℕ, suc, ◌<◌, ◌≤◌, List, [], ◌∷◌, ◌++◌, length, take, AllPairs, Option, Some, None, Ok, Err, slice_get, if◌then◌else◌, ◌==◌, ◌&&◌, false}
use Rattle.std.specs.List.{Contains}
use Rattle.std.specs.FinMap.{get}
use Rattle.std.specs.Ordering.{nat_cmp}
use Rattle.std.specs.Cmp.Lexicographic.{slice_cmp}
use Rattle.std.specs.declared.cmp.Ordering.TheVariants.{Less}
use Rattle.cpg_cred.specs.declared.bases.By.{By}
use Rattle.cpg_cred.specs.declared.bases.By.TheVariants as by
use Rattle.cpg_cred.specs.declared.credentials.Cred.{Cred}
use Rattle.cpg_cred.specs.Listed.{Listed}
use Rattle.cpg_cred.specs.declared.refusals.Refusal.TheVariants.{Access, NoConnection, ConnectionsFull, Denied}
use Rattle.cpg_rules.specs.declared.rules.Effect.TheVariants.{Deny}
use Rattle.cpg_rules.specs.declared.rules.Right.TheVariants as right
use Rattle.cpg_entry.specs.declared.ranges.TheConstants.{MOST_CONNECTIONS}
use Rattle.cpg_record.specs.declared.events.Event.{Event}
use Rattle.cpg_record.specs.declared.events.Event.TheVariants as event
use Rattle.cpg_record.specs.declared.records.Record.{Record}
use Rattle.cpg_record.specs.declared.verdicts.Verdict.{Verdict}
use Rattle.cpg_record.specs.Judging.{judged, record_of}
use Rattle.cpg_record.specs.Laws.{InGroup, LeavesAll}
use Rattle.cpg_record.specs.Membership.{is_allowed}
use Rattle.cpg_record.specs.Places.{record_at, records_before, Begins}
use Rattle.cpg_record.specs.Reasons.{Says, IsVerdict}
use Rattle.cpg_record.specs.Receiving.{IsSent, Precedes}
use Rattle.cpg_record.specs.RuleTables.{rules_of}
use Rattle.cpg_record.specs.Showing.{HasProcess, HasMember, MayList}
use Rattle.cpg_ring.specs.States.{Entry, Frame}
use Rattle.cpg_ring.specs.Worlds.{item, agreed}
use Rattle.cpg_ring.specs.Claims.{Chain, Safe, by_node, waiting_at}
use Rattle.cpg_node.specs.declared.connections.Client.{Client}
use Rattle.cpg_node.specs.Nodes.{NodeValue, records_of, inbox_of, conn_id, open_client, asker_by}
use Rattle.cpg_world_laws.specs.declared.events.WorldEvent.{WorldEvent}
use Rattle.cpg_world_laws.specs.declared.events.WorldEvent.TheVariants.{Connect, Take, List as Listing, Groups}
use Rattle.cpg_world_laws.specs.declared.replies.Reply.TheVariants as reply
use Rattle.cpg_world_laws.specs.Worlds.{WorldValue, happens, runs, admits, node_in, ring_world}
use Rattle.cpg_world_laws.specs.Replies.{Answer, AtEach}

-- user or group is zero or listed
abbrev pub IsLetIn : Listed → Cred → Type 0
IsLetIn list cred = (cred.uid ≡ 0) ⊎ ((cred.gid ≡ 0) ⊎ ((Contains list.users cred.uid) ⊎ (Contains list.groups cred.gid)))

-- of the node that is there, this is true
abbrev pub AtNode : Option NodeValue → (NodeValue → Type 0) → Type 0
AtNode None P = ⊥
AtNode (Some x) P = P x

-- What a Connect at a node is answered: Access exactly where the credentials are not let in, ConnectionsFull exactly where they are and all
-- numbers are given, and a number exactly where they are and one is left, which is the next.
pub record Admits (list : Listed) (cred : Cred) (a : Answer) (x : NodeValue) : Type 0 where
  pub shut_out : (a ≡ Err Access) ↔ ¬ IsLetIn list cred
  pub full : (a ≡ Err ConnectionsFull) ↔ (IsLetIn list cred × (MOST_CONNECTIONS ≤ length x.clients))
  pub let_in : (conn : ℕ) → (a ≡ Ok (reply.Connected conn)) ↔ (IsLetIn list cred × (length x.clients < MOST_CONNECTIONS) × (conn ≡ suc (length x.clients)))

-- Admission: each Connect is answered so, by the world's list.
abbrev pub AdmitsExactly : WorldValue → WorldEvent → Answer → Type 0
AdmitsExactly w (Connect n pid cred) a = AtNode (item w.nodes n) (Admits w.list cred a)
AdmitsExactly w e a = Unit {0}

-- the answer lists the process
abbrev pub Lists : Answer → ℕ → ℕ → Type 0
Lists (Ok (reply.Members list)) node pid = Contains list (node, pid)
Lists _ node pid = ⊥

-- the answer is a list of processes, if an empty one
abbrev pub IsList : Answer → Type 0
IsList (Ok (reply.Members list)) = Unit {0}
IsList _ = ⊥

-- the first rule that speaks of a listing by the connection denies it
abbrev pub DeniesListing : NodeValue → Client → List ℕ → By → Type 0
DeniesListing x c g basis = (id : ℕ) × (basis ≡ by.Rule id) × Says (rules_of (records_of x) g) right.List (asker_by x c) Deny (by.Rule id)

-- What an open connection is answered that lists a group, over what its node delivered: a list exactly where the table lets it; on the list
-- a process exactly where it is a member and the table lets the connection list it; and a denial exactly where a rule says so, which is named.
pub record ShowsMembersTo (x : NodeValue) (g : List ℕ) (a : Answer) (c : Client) : Type 0 where
  pub shown : IsList a ↔ MayList (records_of x) (asker_by x c) g
  pub listed : (node pid : ℕ) → Lists a node pid ↔ (HasProcess (records_of x) g node pid × MayList (records_of x) (asker_by x c) g)
  pub denied : (basis : By) → (a ≡ Err (Denied basis)) ↔ DeniesListing x c g basis

-- the answer names the group
abbrev pub Names : Answer → List ℕ → Type 0
Names (Ok (reply.Groups names)) g = Contains names g
Names _ g = ⊥

-- the answer is names in the order of their bytes, each once
abbrev pub AreAscending : Answer → Type 0
AreAscending (Ok (reply.Groups names)) = AllPairs (λ g h. slice_cmp nat_cmp g h ≡ Less) names
AreAscending _ = ⊥

-- What an open connection is answered that asks for the groups, over what its node delivered: in order, the name of a group exactly where it
-- has a member and its table lets the connection list it.
pub record NamesGroupsTo (x : NodeValue) (a : Answer) (c : Client) : Type 0 where
  pub ascending : AreAscending a
  pub named : (g : List ℕ) → Names a g ↔ (HasMember (records_of x) g × MayList (records_of x) (asker_by x c) g)

-- a connection that is not open is refused, and of one that is this is true
abbrev pub WhereOpen : Option Client → Answer → (Client → Type 0) → Type 0
WhereOpen None a P = a ≡ Err NoConnection
WhereOpen (Some c) a P = P c

-- Listings: each List and Groups is answered so.
abbrev pub ListsExactly : WorldValue → WorldEvent → Answer → Type 0
ListsExactly w (Listing n conn g) a = AtNode (item w.nodes n) (λ x. WhereOpen (open_client x conn) a (ShowsMembersTo x g a))
ListsExactly w (Groups n conn) a = AtNode (item w.nodes n) (λ x. WhereOpen (open_client x conn) a (NamesGroupsTo x a))
ListsExactly w e a = Unit {0}

-- a refused event leaves the world as it was
abbrev pub ChangesNothing : WorldValue → WorldEvent → Answer → Type 0
ChangesNothing w e (Ok r) = Unit {0}
ChangesNothing w e (Err why) = happens w e ≡ w

-- The records of a node are the first of the agreed list's, as many as it delivered.
pub record IsAgreed (sent : List Frame) (x : NodeValue) : Type 0 where
  pub reached : x.ring.state.delivered ≤ length (agreed sent)
  pub records : records_of x ≡ take x.ring.state.delivered (judged (agreed sent))

-- Each record is the judgement of its entry by the records before it.
abbrev pub JudgedByThoseBefore : List Record → Type 0
JudgedByThoseBefore records = (i : ℕ) (r : Record) → slice_get records i ≡ Some r → r ≡ record_of (take i records) r.entry

-- Each verdict is the one that names what decided it, over the records before: the first rule that speaks, the right's default, or the state.
abbrev pub VerdictsAreNamed : List Record → Type 0
VerdictsAreNamed records = (place : ℕ) (r : Record) → record_at records place ≡ Some r → (verdict : Verdict) → (r.verdict ≡ verdict) ↔ IsVerdict (records_before records place) r.entry r.entry.op verdict

-- A denied entry changes no table, no membership, and tells its maker alone.
abbrev pub DenialsChangeNothing : List Record → Type 0
DenialsChangeNothing records = (i : ℕ) (r : Record) → slice_get records i ≡ Some r → is_allowed r.verdict ≡ false → LeavesAll (take i records) r

-- how many events a connection took
abbrev pub taken_in : Option Client → ℕ
taken_in None = 0
taken_in (Some c) = c.taken

-- the events that a connection took, as many as it took, of its inbox
abbrev pub had : Option NodeValue → ℕ → List Event
had None conn = []
had (Some x) conn = take (taken_in (item x.clients conn)) (inbox_of x conn)

-- all events for the connection over what its node delivered
abbrev pub inbox_at : Option NodeValue → ℕ → List Event
inbox_at None conn = []
inbox_at (Some x) conn = inbox_of x conn

-- Inboxes: of a Take by an open connection, that it is answered None exactly where the connection had all of its inbox.
abbrev pub EndsExactly : WorldValue → WorldEvent → Answer → Type 0
EndsExactly w (Take n conn) a = a ≢ Err NoConnection → ((a ≡ Ok (reply.Took None)) ↔ (had (item w.nodes n) conn ≡ inbox_at (item w.nodes n) conn))
EndsExactly w e a = Unit {0}

-- what an answer to Take gives
abbrev pub given_by : Answer → List Event
given_by (Ok (reply.Took (Some event))) = event ∷ []
given_by _ = []

-- what an event gives the connection
abbrev pub gives : ℕ → ℕ → WorldEvent → Answer → List Event
gives n conn (Take m other) a = if (m == n) && (other == conn) then given_by a else []
gives n conn e a = []

-- what a run gives the connection, in order
abbrev pub given : ℕ → ℕ → List WorldEvent → List Answer → List Event
given n conn [] answers = []
given n conn (e ∷ es) [] = []
given n conn (e ∷ es) (a ∷ answers) = gives n conn e a ++ given n conn es answers

-- what an event admits at node n, if it is there
abbrev pub admits_at : ℕ → WorldEvent → Option NodeValue → List Entry
admits_at n e None = []
admits_at n e (Some x) = if node_in e == n then admits e x else []

-- the calls and ends that a run admits at node n, in order
abbrev pub admitted : WorldValue → ℕ → List WorldEvent → List Entry
admitted w n [] = []
admitted w n (e ∷ es) = admits_at n e (item w.nodes n) ++ admitted (happens w e) n es

-- node n's entries that took places, and then those that wait
abbrev pub node_entries : WorldValue → ℕ → List Entry
node_entries w n = by_node n (agreed w.sent) ++ waiting_at (item (ring_world w).nodes n)

-- The inboxes of a node have exactly the messages that members of a group were allowed to send at the places that it delivered, each for
-- the connections that were in the group then; and their events come in order, each once.
pub record InboxesAreExact (x : NodeValue) : Type 0 where
  pub messages : (conn place : ℕ) (g : List ℕ) (node pid : ℕ) (message : List ℕ) →
      Contains (inbox_of x conn) (event.Message place g node pid message)
      ↔ (IsSent (records_of x) place g node pid message × InGroup (records_before (records_of x) place) (conn_id x conn) g)
  pub in_order : (conn : ℕ) → AllPairs Precedes (inbox_of x conn)

-- a node later: it delivered no fewer places, and its records begin its later ones
pub record GoesOn (x later : NodeValue) : Type 0 where
  pub delivered : x.ring.state.delivered ≤ later.ring.state.delivered
  pub records : Begins (records_of x) (records_of later)

-- at each place that both reached, the one then and the other now, they have the same record
abbrev pub JudgeAlike : NodeValue → NodeValue → Type 0
JudgeAlike x y = (place : ℕ) (r q : Record) → record_at (records_of x) place ≡ Some r → record_at (records_of y) place ≡ Some q → r ≡ q

-- What is true of every world that is reached.
pub record IsTrueWorld (w : WorldValue) : Type 0 where
  -- copies apart, one token for each hop, of which the last alone can be accepted, by one node
  pub chain : Chain w.settings (ring_world w)
  -- what a node holds at a place, delivered or not, is the agreed list's entry there
  pub held_as_agreed : (n : ℕ) (x : NodeValue) (place : ℕ) (e : Entry) → item w.nodes n ≡ Some x → get x.ring.state.held place ≡ Some e → item (agreed w.sent) place ≡ Some e
  -- nodes that reached a place judge it alike
  pub judged_alike : (n : ℕ) (x : NodeValue) → item w.nodes n ≡ Some x → IsAgreed w.sent x
  -- by the rules before it
  pub by_rules_before : JudgedByThoseBefore (judged (agreed w.sent))
  -- each verdict names the rule, the default or the state that decided
  pub named : VerdictsAreNamed (judged (agreed w.sent))
  -- a process receives exactly the allowed messages of members placed while it was joined, in order, each once
  pub receives : (n : ℕ) (x : NodeValue) → item w.nodes n ≡ Some x → InboxesAreExact x
  -- a denial changes nothing
  pub denials : DenialsChangeNothing (judged (agreed w.sent))
  -- all nodes hold all places up to any node's safe mark
  pub safe : Safe w.settings (ring_world w)

-- What is true of every run of these events, with these answers.
pub record IsTrueRun (w : WorldValue) (events : List WorldEvent) (answers : List Answer) : Type 0 where
  -- a connection is accepted exactly when its user or group is zero or listed, and a number is left
  pub admission : AtEach AdmitsExactly w events answers
  -- a connection has received a front of its inbox, item by item
  pub received : (n conn : ℕ) → had (item w.nodes n) conn ++ given n conn events answers ≡ had (item (runs w events).nodes n) conn
  -- and a take answers none exactly where that is all of it
  pub ends : AtEach EndsExactly w events answers
  -- listings show exactly what rules allow, and are denied by a rule that is named
  pub listings : AtEach ListsExactly w events answers
  -- a node's entries take places in the order in which they were admitted, each once
  pub placed_in_order : (n : ℕ) → node_entries (runs w events) n ≡ node_entries w n ++ admitted w n events
  -- the agreed list only grows
  pub agreed_grows : Begins (agreed w.sent) (agreed (runs w events).sent)
  -- a node goes on from where it was
  pub goes_on : (n : ℕ) (x later : NodeValue) → item w.nodes n ≡ Some x → item (runs w events).nodes n ≡ Some later → GoesOn x later
  -- nodes that reached a place judge it alike, whenever each reached it
  pub alike_later : (n m : ℕ) (x y : NodeValue) → item w.nodes n ≡ Some x → item (runs w events).nodes m ≡ Some y → JudgeAlike x y
  -- a refused event leaves the world as it was
  pub refusals : AtEach ChangesNothing w events answers
