-- Why the next ring does not begin.
use Rattle.std.specs.Prelude.{◌≡◌, ◌⊎◌, ◌<◌, ◌≤◌, ◌+◌, ℕ, suc, true, List, [], ◌∷◌, length, min, Option, Some}
use Rattle.std.specs.List.{AllByRecursion}
use Rattle.cpg_cred.specs.Listed.{Listed}
use Rattle.cpg_cred.specs.declared.refusals.Refusal.{Refusal}
use Rattle.cpg_cred.specs.declared.refusals.Refusal.TheVariants.{Access, BadName, ConnectionsFull, Memory, NoConnection, Range, RingEnd}
use Rattle.cpg_entry.specs.Names.{is_name}
use Rattle.cpg_entry.specs.declared.calls.Call.{Call}
use Rattle.cpg_entry.specs.declared.ranges.TheConstants.{MOST_CONNECTIONS}
use Rattle.cpg_record.specs.declared.records.Record.{Record}
use Rattle.cpg_record.specs.Membership.{Membership, memberships}
use Rattle.cpg_record.specs.RuleTables.{rules_of}
use Rattle.cpg_ring.specs.declared.settings.Settings.{Settings}
use Rattle.cpg_node.specs.declared.connections.Client.{Client}
use Rattle.cpg_node.specs.Calls.{call_refusal, connect_refusal}
use Rattle.cpg_node.specs.Nodes.{NodeValue, open_client, records_of}
use Rattle.cpg_serve.specs.Serving.{ServedValue}
use Rattle.cpg_serve.specs.Settling.{WhyMoving}
use Rattle.cpg_serve.specs.Carrying.{AreLetIn, AreOfOne, IsAtRest, living, number_at, tables_in}

-- there was no memory, or the ring has fewer places or hops than so many entries, each of which takes one of both
abbrev pub WhyShort : Settings → ℕ → Refusal → Type 0
WhyShort s count why = (why ≡ Memory) ⊎ ((why ≡ RingEnd) × (min s.places s.hops < count))

-- why there is no new ring of one node
abbrev pub WhyNotFirst : Settings → Refusal → Type 0
WhyNotFirst s why = (why ≡ Memory) ⊎ ((why ≡ Range) × ¬ AreOfOne s)

-- why a call was not made and delivered, behind so many entries
abbrev pub WhyNotEntered : Settings → ℕ → Call → Refusal → Type 0
WhyNotEntered s count call why = (call_refusal call ≡ Some why) ⊎ WhyShort s (suc count) why

-- why an open client was not connected
abbrev pub WhyNotOne : NodeValue → Option Client → Refusal → Type 0
WhyNotOne x o why = (c : Client) × (o ≡ Some c) × ((why ≡ Memory) ⊎ (connect_refusal x c.cred ≡ Some why))

-- why those of these clients that are open were not connected
abbrev pub WhyNotConnected : NodeValue → List Client → Refusal → Type 0
WhyNotConnected x cs why = (why ≡ Memory) ⊎ (((why ≡ Access) × ¬ AreLetIn x.list cs) ⊎ ((why ≡ ConnectionsFull) × (MOST_CONNECTIONS < length x.clients + length (living cs))))

-- the member is the process of the connection that has its new number
abbrev pub IsSeated : List ℕ → NodeValue → Membership → Type 0
IsSeated numbers x m = (c : Client) × (open_client x (number_at numbers m.member.conn) ≡ Some c) × (c.pid ≡ m.member.pid) × (x.ring.node ≡ m.member.node)

abbrev pub IsNamed : List ℕ → Type 0
IsNamed g = is_name g ≡ true

abbrev pub HasName : Membership → Type 0
HasName m = IsNamed m.group

-- why members did not join again, behind so many entries
abbrev pub WhyNotJoined : List ℕ → NodeValue → ℕ → List Membership → Refusal → Type 0
WhyNotJoined numbers x count all why = ((why ≡ NoConnection) × ¬ AllByRecursion (IsSeated numbers x) all) ⊎ (((why ≡ BadName) × ¬ AllByRecursion HasName all) ⊎ WhyShort x.ring.settings (count + length all) why)

-- why rules were not put into the tables of these groups, up to so many entries
abbrev pub WhyNotPut : Settings → List (List ℕ) → ℕ → Refusal → Type 0
WhyNotPut s groups count why = ((why ≡ BadName) × ¬ AllByRecursion IsNamed groups) ⊎ WhyShort s count why

-- how many rules the tables of these groups have
abbrev pub rule_count : List Record → List (List ℕ) → ℕ
rule_count records [] = 0
rule_count records (g ∷ groups) = length (rules_of records g) + rule_count records groups

-- with how many entries the next ring begins: a join for each member, an insert for each rule, and an end
abbrev pub entry_count : List Record → ℕ
entry_count records = suc (length (memberships records) + rule_count records (tables_in records))

-- the member's connection is open, and the member is its process
abbrev pub IsHeld : NodeValue → Membership → Type 0
IsHeld x m = (c : Client) × (open_client x m.member.conn ≡ Some c) × (c.pid ≡ m.member.pid) × (m.member.node ≡ 1)

-- Why the next ring of a node at rest does not begin: there was no memory; the settings are of no ring of one node; the
-- list does not let an open connection in; as many connections are open as a node has, so that there is no room for the
-- daemon's own, or there were more; a member is no open connection's process; a group has no name; or the ring has fewer
-- places or hops than it begins with entries.
abbrev pub WhyNotBegun : Settings → Listed → NodeValue → Refusal → Type 0
WhyNotBegun s list x Memory = Unit {0}
WhyNotBegun s list x Range = ¬ AreOfOne s
WhyNotBegun s list x Access = AreOfOne s × ¬ AreLetIn list x.clients
WhyNotBegun s list x ConnectionsFull = AreOfOne s × ((MOST_CONNECTIONS ≤ length (living x.clients)) ⊎ (MOST_CONNECTIONS < length x.clients))
WhyNotBegun s list x NoConnection = AreOfOne s × ¬ AllByRecursion (IsHeld x) (memberships (records_of x))
WhyNotBegun s list x BadName = AreOfOne s × (¬ AllByRecursion HasName (memberships (records_of x)) ⊎ ¬ AllByRecursion IsNamed (tables_in (records_of x)))
WhyNotBegun s list x RingEnd = AreOfOne s × (min s.places s.hops < entry_count (records_of x))
WhyNotBegun s list x _ = ⊥

-- the node does not come to rest; or it did, and the next ring does not begin
abbrev pub WhyNotRenewed : Settings → Listed → ServedValue → ServedValue → Refusal → Type 0
WhyNotRenewed s list x y why = WhyMoving x.node.ring y.node.ring why ⊎ (IsAtRest y × WhyNotBegun s list y.node why)
