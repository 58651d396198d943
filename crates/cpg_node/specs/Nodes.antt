-- One node, as its calls see it: its part of the ring, whom it lets in, and its connections.
use Rattle.std.specs.Prelude.{ℕ, List, [], Option, Some, None, if◌then◌else◌}
use Rattle.std.specs.List.{filter_map}
use Rattle.std.specs.FinMap.{get}
use Rattle.cpg_cred.specs.Listed.{Listed}
use Rattle.cpg_rules.specs.declared.rules.Asker.{Asker}
use Rattle.cpg_entry.specs.declared.calls.Op.{Op}
use Rattle.cpg_entry.specs.declared.entries.Entry.{Entry}
use Rattle.cpg_record.specs.declared.connections.ConnId.{ConnId}
use Rattle.cpg_record.specs.declared.events.Event.{Event}
use Rattle.cpg_record.specs.declared.records.Record.{Record}
use Rattle.cpg_record.specs.Judging.{judged}
use Rattle.cpg_record.specs.Events.{inbox}
use Rattle.cpg_ring.specs.States.{NodeState}
use Rattle.cpg_ring.specs.declared.settings.Settings.{Settings}
use Rattle.cpg_ring.specs.Visits.{up_to}
use Rattle.cpg_ring.specs.Worlds.{item}
use Rattle.cpg_ring.specs.Rings.{RingNode, new_ring_node, with_state}
use Rattle.cpg_node.specs.declared.connections.Client.{Client}

-- One node.
pub record NodeValue : Type 0 where
  -- its part of the ring, with the settings and its number
  pub ring : RingNode
  -- whom it lets in
  pub list : Listed
  -- its connections, open and ended: number n is item n
  pub clients : List Client

-- a new node
abbrev pub new_value : Settings → ℕ → Listed → NodeValue
new_value s n list = record { ring = new_ring_node s n; list = list; clients = [] }

-- the node whose part of the ring is in another state
abbrev pub with_ring : NodeValue → NodeState → NodeValue
with_ring x state = record { ring = with_state x.ring state; list = x.list; clients = x.clients }

-- the node with other connections
abbrev pub with_clients : NodeValue → List Client → NodeValue
with_clients x clients = record { ring = x.ring; list = x.list; clients = clients }

-- the entries at the places 1 to the last delivered
abbrev pub delivered_entries : NodeState → List Entry
delivered_entries r = filter_map (get r.held) (up_to r.delivered)

-- the records of what the node delivered
abbrev pub records_of : NodeValue → List Record
records_of x = judged (delivered_entries x.ring.state)

-- a connection of the node, by its number
abbrev pub conn_id : NodeValue → ℕ → ConnId
conn_id x conn = record { node = x.ring.node; conn = conn }

-- all events for a connection of the node, over what the node delivered
abbrev pub inbox_of : NodeValue → ℕ → List Event
inbox_of x conn = inbox (records_of x) (conn_id x conn)

-- the connection, unless it ended
abbrev pub if_open : Option Client → Option Client
if_open None = None
if_open (Some c) = if c.ended then None else Some c

-- the open connection of that number, if there is one
abbrev pub open_client : NodeValue → ℕ → Option Client
open_client x conn = if_open (item x.clients conn)

-- the entry that the connection makes
abbrev pub entry_by : NodeValue → ℕ → Client → Op → Entry
entry_by x conn c op = record { node = x.ring.node; conn = conn; pid = c.pid; cred = c.cred; op = op }

-- who asks, as rules see it
abbrev pub asker_by : NodeValue → Client → Asker
asker_by x c = record { node = x.ring.node; cred = c.cred }
