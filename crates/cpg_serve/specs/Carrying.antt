-- What the next ring takes over of a node: its open connections, its members and its tables.
use Rattle.std.specs.Prelude.{◌≡◌, ◌≢◌, ◌<◌, ◌≤◌, ℕ, suc, Bool, false, true, not, List, [], ◌∷◌, ◌++◌, map, length, is_some, Option, Some, None, option_map, ◌==◌, if◌then◌else◌}
use Rattle.std.specs.List.{AllByRecursion, filter, fold, list_any}
use Rattle.std.specs.Str.{bytes_eq}
use Rattle.cpg_cred.specs.declared.credentials.Cred.{Cred}
use Rattle.cpg_cred.specs.Listed.{Listed}
use Rattle.cpg_cred.specs.Admission.{via_of}
use Rattle.cpg_entry.specs.declared.ranges.TheConstants.{MOST_CONNECTIONS}
use Rattle.cpg_ring.specs.declared.settings.Settings.{Settings}
use Rattle.cpg_entry.specs.declared.calls.Call.TheVariants.{Insert}
use Rattle.cpg_entry.specs.declared.calls.Op.{Op}
use Rattle.cpg_entry.specs.declared.calls.Op.TheVariants.{Act, Gone}
use Rattle.cpg_entry.specs.declared.entries.Entry.{Entry}
use Rattle.cpg_entry.specs.declared.frames.Token.{Token}
use Rattle.cpg_record.specs.declared.events.Event.{Event}
use Rattle.cpg_record.specs.declared.records.Record.{Record}
use Rattle.cpg_record.specs.declared.connections.ConnId.{ConnId}
use Rattle.cpg_record.specs.Connections.{conn_in, conn_of, is_conn, member_of}
use Rattle.cpg_record.specs.Judging.{judged}
use Rattle.cpg_record.specs.Membership.{Membership, ends, is_allowed, memberships, taken}
use Rattle.cpg_record.specs.RuleTables.{rules_of}
use Rattle.cpg_ring.specs.States.{IsSettings}
use Rattle.cpg_ring.specs.Worlds.{item, with_item}
use Rattle.cpg_node.specs.declared.connections.Client.{Client}
use Rattle.cpg_node.specs.Nodes.{NodeValue, entry_by, new_value, open_client, records_of}
use Rattle.cpg_node.specs.Calls.{call_refusal, connected}
use Rattle.cpg_ask.specs.declared.greetings.Greeting.{Greeting}
use Rattle.cpg_serve.specs.Telling.{DeskValue, new_desk}
use Rattle.cpg_serve.specs.Asking.{at_of}
use Rattle.cpg_serve.specs.Coming.{IsCounted, left_of, rest_of}
use Rattle.cpg_serve.specs.Serving.{ServedValue, greeting_of}
use Rattle.cpg_serve.specs.Renewing.{Root, Seat, TableOf, all_inserts, bare, held_by, renewal, seat_entry}
use Rattle.cpg_serve.specs.Settling.{IsAlike, IsLone, IsStill, MovesOn, ToldAll}

-- the new numbers of connections: of those that are open, in their order, the ones after n; of one that ended 0
abbrev pub numbered : ℕ → List Client → List ℕ
numbered n [] = []
numbered n (c ∷ cs) = if c.ended then 0 ∷ numbered n cs else suc n ∷ numbered (suc n) cs

abbrev pub number_in : Option ℕ → ℕ
number_in None = 0
number_in (Some n) = n

-- the new number of a connection, 0 where it has none
abbrev pub number_at : List ℕ → ℕ → ℕ
number_at numbers conn = number_in (item numbers conn)

-- the member by the new number of its connection
abbrev pub renumbered : List ℕ → Membership → Membership
renumbered numbers m = record { group = m.group; member = record { node = m.member.node; conn = number_at numbers m.member.conn; pid = m.member.pid } }

-- the membership that a join takes, unless a later record ends it
abbrev pub joined_by : List ℕ → Entry → List Record → List Membership
joined_by g entry later = if not (list_any (ends (conn_of entry)) later) then record { group = g; member = member_of entry } ∷ [] else []

-- the membership that a record takes and that no later record ends
abbrev pub lasting : Record → List Record → List Membership
lasting r later = filter (λ m. not (list_any (ends (conn_in m.member)) later)) (taken r)

-- the connections are those that a record ends
abbrev pub AreEnded : List ConnId → List Record → Type 0
AreEnded conns records = (conn : ConnId) → list_any (is_conn conn) conns ≡ list_any (ends conn) records

-- the group whose table a record adds to, if it does
abbrev pub inserted_into : Op → List (List ℕ)
inserted_into (Act (Insert g index rule)) = g ∷ []
inserted_into _ = []

abbrev pub tabled : Record → List (List ℕ)
tabled r = if is_allowed r.verdict then inserted_into r.entry.op else []

-- a group's name is among the names
abbrev pub is_among : List (List ℕ) → List ℕ → Bool
is_among names g = list_any (λ name. bytes_eq name g) names

-- the names with the groups that are not among them yet
abbrev pub with_names : List (List ℕ) → List (List ℕ) → List (List ℕ)
with_names names [] = names
with_names names (g ∷ more) = if is_among names g then with_names names more else with_names (names ++ g ∷ []) more

-- the groups to whose tables records add, each once, in the order of the first that does
abbrev pub tables_in : List Record → List (List ℕ)
tables_in records = fold (λ names r. with_names names (tabled r)) [] records

-- a group's table, as records have it
abbrev pub table_of : List Record → List ℕ → TableOf
table_of records g = record { group = g; rules = bare (rules_of records g) }

-- the end of the daemon's own connection
abbrev pub root_end : Root → Entry
root_end root = record { node = root.node; conn = root.conn; pid = root.pid; cred = record { uid = 0; gid = 0 }; op = Gone }

-- the entries with which the next ring begins: joins, inserts, and the end of the daemon's own connection
abbrev pub next_entries : List Seat → Root → List Record → List Entry
next_entries seats root records = renewal seats root (map (table_of records) (tables_in records)) ++ root_end root ∷ []

-- the member's connection has a new number
abbrev pub HasNumber : List ℕ → Membership → Type 0
HasNumber numbers m = 1 ≤ number_at numbers m.member.conn

-- The same members in the same order, by the new numbers of their connections, and the same rules in the same order.
pub record KeepsAll (clients : List Client) (old new : List Record) : Type 0 where
  pub members : memberships new ≡ map (renumbered (numbered 1 clients)) (memberships old)
  pub rules : (g : List ℕ) → bare (rules_of new g) ≡ bare (rules_of old g)

-- A ring keeps all of another that begins with its members' joins, in order, and the rules of all its tables, put in by
-- the first connection, which then ends.
abbrev pub NextKeepsAll : Type 0
NextKeepsAll = (entries : List Entry) (clients : List Client) (root : Root) (seats : List Seat) → root.conn ≡ 1
    → AllByRecursion (HasNumber (numbered 1 clients)) (memberships (judged entries))
    → map held_by seats ≡ map (renumbered (numbered 1 clients)) (memberships (judged entries))
    → KeepsAll clients (judged entries) (judged (next_entries seats root (judged entries)))

-- these entries have all places of a ring of one node, in as many hops at most, and are delivered; none waits
pub record IsBegun (x : NodeValue) (entries : List Entry) : Type 0 where
  pub still : IsStill x
  pub token : Token
  pub hop : token.hop ≤ length entries
  pub lone : IsLone x.ring token entries

-- a call that a node takes, or an end
abbrev pub IsTaken : Op → Type 0
IsTaken (Act call) = call_refusal call ≡ None
IsTaken Gone = Unit {0}

-- The node takes such an entry, and a connection of its own made it, as the process that it is while it is open.
pub record IsMade (x : NodeValue) (e : Entry) : Type 0 where
  pub taken : IsTaken e.op
  pub node : e.node ≡ x.ring.node
  pub known : (1 ≤ e.conn) × (e.conn ≤ length x.clients)
  pub process : (c : Client) → open_client x e.conn ≡ Some c → c.pid ≡ e.pid

-- the entry is not the connection's
abbrev pub IsOther : ℕ → Entry → Type 0
IsOther conn e = e.conn ≢ conn

-- The last of the connection's entries is its end.
pub record EndsIn (entries : List Entry) (conn : ℕ) : Type 0 where
  pub before : List Entry
  pub end : Entry
  pub after : List Entry
  pub cut : entries ≡ before ++ end ∷ after
  pub own : end.conn ≡ conn
  pub gone : end.op ≡ Gone
  pub others : AllByRecursion (IsOther conn) after

-- The node's own connections made all these entries, and each that ended has its end as the last of them.
pub record AreItsOwn (x : NodeValue) (entries : List Entry) : Type 0 where
  pub made : AllByRecursion (IsMade x) entries
  pub ended : (conn : ℕ) → 1 ≤ conn → conn ≤ length x.clients → open_client x conn ≡ None → EndsIn entries conn

-- a client that took nothing yet
abbrev pub anew : Client → Client
anew c = record { pid = c.pid; cred = c.cred; ended = c.ended; taken = 0 }

-- it took nothing
abbrev pub IsFresh : Client → Type 0
IsFresh c = c.taken ≡ 0

-- those that are open
abbrev pub living : List Client → List Client
living clients = filter (λ c. not c.ended) clients

-- the settings are of a ring of one node
abbrev pub AreOfOne : Settings → Type 0
AreOfOne s = (s.nodes ≡ 1) × IsSettings s

-- the list lets the client in
abbrev pub IsLetIn : Listed → Client → Type 0
IsLetIn list c = is_some (via_of list c.cred) ≡ true

-- and each that is open
abbrev pub AreLetIn : Listed → List Client → Type 0
AreLetIn list clients = AllByRecursion (IsLetIn list) (living clients)

-- the daemon's own connection, which puts the rules in and ends
abbrev pub own_client : Client
own_client = record { pid = 0; cred = record { uid = 0; gid = 0 }; ended = true; taken = 0 }

-- a client's desk, where it is greeted so
abbrev pub greeted : Greeting → DeskValue → DeskValue
greeted greeting d = record { greeting = greeting; owed = d.owed; next = d.next; out = d.out }

-- the desks of the connections that have a new number
abbrev pub kept_desks : List ℕ → List DeskValue → List DeskValue
kept_desks (n ∷ ns) (d ∷ ds) = if n == 0 then kept_desks ns ds else d ∷ kept_desks ns ds
kept_desks _ _ = []

-- ---- what each part of it does

-- The connection's entry was made, placed and delivered.
pub record HasEntered (conn : ℕ) (op : Op) (x y : NodeValue) : Type 0 where
  pub taken : IsTaken op
  pub alike : IsAlike x y
  pub clients : y.clients ≡ x.clients
  pub begun : (es : List Entry) (c : Client) → open_client x conn ≡ Some c → IsBegun x es → IsBegun y (es ++ entry_by x conn c op ∷ [])

-- The connection ended, and its end was placed and delivered.
pub record HasParted (conn : ℕ) (x y : NodeValue) : Type 0 where
  pub alike : IsAlike x y
  pub clients : (c : Client) → open_client x conn ≡ Some c → y.clients ≡ with_item x.clients conn (record c { ended = true })
  pub begun : (es : List Entry) (c : Client) → open_client x conn ≡ Some c → IsBegun x es → IsBegun y (es ++ entry_by x conn c Gone ∷ [])

-- an open connection of an old node is one of the new node, too, whose list lets it in, and which has a number for it
abbrev pub ConnectsBy : Option Client → ℕ → NodeValue → NodeValue → Type 0
ConnectsBy None number x y = (number ≡ 0) × (y ≡ x)
ConnectsBy (Some c) number x y = (number ≡ suc (length x.clients)) × (y ≡ connected x c.pid c.cred) × IsLetIn x.list c × (length x.clients < MOST_CONNECTIONS)

-- So are those of these clients, by these numbers.
pub record HaveConnected (old : List Client) (numbers : List ℕ) (x y : NodeValue) : Type 0 where
  pub ring : y.ring ≡ x.ring
  pub list : y.list ≡ x.list
  pub given : numbers ≡ numbered (length x.clients) old
  pub alive : map anew y.clients ≡ map anew x.clients ++ map anew (living old)
  pub fresh : AllByRecursion IsFresh x.clients → AllByRecursion IsFresh y.clients
  pub few : length x.clients ≤ MOST_CONNECTIONS → length y.clients ≤ MOST_CONNECTIONS
  pub let_in : AreLetIn x.list old

-- Members joined again, by their new numbers.
pub record HaveJoined (numbers : List ℕ) (all : List Membership) (x y : NodeValue) : Type 0 where
  pub seats : List Seat
  pub held : map held_by seats ≡ map (renumbered numbers) all
  pub numbered : AllByRecursion (HasNumber numbers) all
  pub made : AllByRecursion (IsMade x) (map seat_entry seats)
  pub alike : IsAlike x y
  pub clients : y.clients ≡ x.clients
  pub begun : (es : List Entry) → IsBegun x es → IsBegun y (es ++ map seat_entry seats)

-- the daemon's own connection is open
abbrev pub IsRoot : Root → NodeValue → Type 0
IsRoot root x = (root.node ≡ x.ring.node) × ((taken : ℕ) × (open_client x root.conn ≡ Some (record { pid = root.pid; cred = record { uid = 0; gid = 0 }; ended = false; taken = taken })))

-- Entries of the daemon's own connection were made, placed and delivered.
pub record HasPut (root : Root) (entries : List Entry) (x y : NodeValue) : Type 0 where
  pub made : IsRoot root x → AllByRecursion (IsMade x) entries
  pub alike : IsAlike x y
  pub clients : y.clients ≡ x.clients
  pub begun : (es : List Entry) → IsRoot root x → IsBegun x es → IsBegun y (es ++ entries)

-- The daemon's own connection put in all rules of all tables, in order, and ended.
abbrev pub HasPutAll : List Record → NodeValue → NodeValue → Type 0
HasPutAll records x y = (z : NodeValue) × ((root : Root) → root.conn ≡ 1 → HasPut root (all_inserts root (map (table_of records) (tables_in records))) x z) × HasParted 1 z y

-- none took more than its inbox has
abbrev pub AreCounted : NodeValue → Type 0
AreCounted x = (conn : ℕ) → IsCounted conn x

-- The connection took some of what the ring tells it.
pub record HasTaken (conn : ℕ) (x y : NodeValue) : Type 0 where
  pub ring : y.ring ≡ x.ring
  pub list : y.list ≡ x.list
  pub clients : map anew y.clients ≡ map anew x.clients
  pub counted : IsCounted conn x → IsCounted conn y
  pub others : (other : ℕ) → other ≢ conn → item y.clients other ≡ item x.clients other

-- what the connection did not take yet
abbrev pub rest_for : NodeValue → ℕ → List Event
rest_for x conn = rest_of x conn (open_client x conn)

-- it took all
abbrev pub HasGiven : ℕ → NodeValue → NodeValue → Type 0
HasGiven conn x y = HasTaken conn x y × (rest_for y conn ≡ [])

-- the connections up to that number took all
pub record HaveGiven (last : ℕ) (x y : NodeValue) : Type 0 where
  pub ring : y.ring ≡ x.ring
  pub list : y.list ≡ x.list
  pub clients : map anew y.clients ≡ map anew x.clients
  pub counted : AreCounted x → AreCounted y
  pub given : (conn : ℕ) → conn ≤ last → rest_for y conn ≡ []

-- a new ring of one node, with the daemon's own connection
abbrev pub IsFirst : Settings → Listed → NodeValue → Type 0
IsFirst s list x = AreOfOne s × (x ≡ connected (new_value s 1 list) 0 (record { uid = 0; gid = 0 }))

-- ---- the next ring

-- The node of the next ring, by these settings and that list: the same members in the same order, by the new numbers of
-- their connections, and the same rules in the same order; the open connections, behind the daemon's own, each of which
-- took all that the ring tells it so far, and no more. It is a ring of one node, in which nothing waits.
pub record IsNext (s : Settings) (list : Listed) (numbers : List ℕ) (x y : NodeValue) : Type 0 where
  pub of_one : AreOfOne s
  pub settings : y.ring.settings ≡ s
  pub lets_in : y.list ≡ list
  pub let_in : AreLetIn list x.clients
  pub entries : List Entry
  pub begun : IsBegun y entries
  pub own : AreItsOwn y entries
  pub keeps : KeepsAll x.clients (records_of x) (records_of y)
  pub renumbers : numbers ≡ numbered 1 x.clients
  pub clients : map anew y.clients ≡ own_client ∷ map anew (living x.clients)
  pub few : length x.clients ≤ MOST_CONNECTIONS
  pub counted : AreCounted y
  pub given : (conn : ℕ) → rest_for y conn ≡ []

-- a new ring's node became that of the next ring
abbrev pub IsFilled : List ℕ → NodeValue → NodeValue → NodeValue → Type 0
IsFilled numbers x first y = (s : Settings) (list : Listed) → IsFirst s list first → IsNext s list numbers x y

-- the first desk is that of the daemon's own connection, which ended; the others are those of the connections that have
-- a new number, as they were
abbrev pub HaveMoved : Greeting → List ℕ → List DeskValue → List DeskValue → Type 0
HaveMoved greeting numbers old new = new ≡ new_desk greeting ∷ map (greeted greeting) (kept_desks numbers old)

-- The next ring of a node with its clients: nobody is told anything, and each client that is there keeps its desk.
pub record IsRenewed (s : Settings) (list : Listed) (numbers : List ℕ) (x y : ServedValue) : Type 0 where
  pub node : IsNext s list numbers x.node y.node
  pub greeting : y.greeting ≡ greeting_of y.node
  pub desks : HaveMoved y.greeting numbers x.desks y.desks

-- The client of an open connection goes over, by its new number: it took nothing else, its desk is as it was, and
-- nothing is left to tell it.
pub record GoesOver (numbers : List ℕ) (y : ServedValue) (conn : ℕ) (c : Client) (d : DeskValue) : Type 0 where
  pub client : option_map anew (open_client y.node (number_at numbers conn)) ≡ Some (anew c)
  pub desk : item y.desks (number_at numbers conn) ≡ Some (greeted y.greeting d)
  pub told : left_of (number_at numbers conn) (at_of y.node (greeted y.greeting d)) ≡ []

-- so does each that was told all
abbrev pub EachGoesOver : Type 0
EachGoesOver = (s : Settings) (list : Listed) (numbers : List ℕ) (x y : ServedValue) (conn : ℕ) (c : Client) (d : DeskValue) → IsRenewed s list numbers x y → ToldAll x conn
    → open_client x.node conn ≡ Some c → item x.desks conn ≡ Some d → GoesOver numbers y conn c d

-- nothing moves, and every client was told all
abbrev pub IsAtRest : ServedValue → Type 0
IsAtRest x = IsStill x.node × ((conn : ℕ) → conn ≤ MOST_CONNECTIONS → ToldAll x conn)

-- first the ring came to rest, then the next one began
abbrev pub ComesToNext : Settings → Listed → List ℕ → ServedValue → ServedValue → Type 0
ComesToNext s list numbers x y = (z : ServedValue) × MovesOn x z × IsAtRest z × IsRenewed s list numbers z y
