-- All nodes of a ring, and every frame that was ever sent. Frames are counted from 1; they arrive any number of times and in any order,
-- and a loss is a frame that no event brings.
use Rattle.std.specs.Prelude.{◌≡◌, ℕ, List, [], ◌∷◌, ◌++◌, map, Option, Some, None}
use Rattle.cpg_cred.specs.Listed.{Listed}
use Rattle.cpg_entry.specs.declared.calls.Op.{Op}
use Rattle.cpg_entry.specs.declared.calls.Op.TheVariants.{Act, Gone}
use Rattle.cpg_entry.specs.declared.frames.Frame.TheVariants as frame
use Rattle.cpg_ring.specs.States.{Entry, Frame, Refusal}
use Rattle.cpg_ring.specs.declared.settings.Settings.{Settings}
use Rattle.cpg_ring.specs.Visits.{up_to}
use Rattle.cpg_ring.specs.Moves.{first_token}
use Rattle.cpg_ring.specs.Worlds as ring
use Rattle.cpg_ring.specs.Worlds.{item, with_item, send_again}
use Rattle.cpg_node.specs.declared.connections.Client.{Client}
use Rattle.cpg_node.specs.Nodes.{NodeValue, new_value, open_client, entry_by}
use Rattle.cpg_node.specs.Calls.{connect_refusal, connected, submit_refusal, submitted, disconnected, frame_refusal, after_frame, answers_to, node_after_delivery, took}
use Rattle.cpg_world_laws.specs.declared.events.WorldEvent.{WorldEvent}
use Rattle.cpg_world_laws.specs.declared.events.WorldEvent.TheVariants.{Connect, Submit, Disconnect, Frame as Arrival, Timer, Deliver, Take, List as Listing, Groups}

-- A world.
pub record WorldValue : Type 0 where
  pub settings : Settings
  -- whom every node lets in
  pub list : Listed
  -- node n is item n
  pub nodes : List NodeValue
  -- every frame sent, in order
  pub sent : List Frame

-- a node after an event, and the frames that it sends
abbrev pub NodeOutcome : Type 0
NodeOutcome = NodeValue × List Frame

-- nothing moves where the event is refused
abbrev pub unless : Option Refusal → NodeValue → NodeOutcome → NodeOutcome
unless (Some why) x move = (x, [])
unless None x move = move

-- a frame comes, if there is one of that number
abbrev pub hears : Option Frame → NodeValue → NodeOutcome
hears None x = (x, [])
hears (Some f) x = unless (frame_refusal x f) x (after_frame x f, answers_to x f)

-- what an event does at its node, where these frames were sent
abbrev pub moves : List Frame → WorldEvent → NodeValue → NodeOutcome
moves sent (Connect n pid cred) x = unless (connect_refusal x cred) x (connected x pid cred, [])
moves sent (Submit n conn call) x = unless (submit_refusal x conn call) x (submitted x conn call, [])
moves sent (Disconnect n conn) x = (disconnected x conn, [])
moves sent (Arrival n k) x = hears (item sent k) x
moves sent (Timer n) x = (x, (send_again x.ring.state x.ring.state.last_token).1)
moves sent (Deliver n) x = (node_after_delivery x, [])
moves sent (Take n conn) x = (took x conn, [])
moves sent (Listing n conn g) x = (x, [])
moves sent (Groups n conn) x = (x, [])

-- the node that an event is for
abbrev pub node_in : WorldEvent → ℕ
node_in (Connect n pid cred) = n
node_in (Submit n conn call) = n
node_in (Disconnect n conn) = n
node_in (Arrival n k) = n
node_in (Timer n) = n
node_in (Deliver n) = n
node_in (Take n conn) = n
node_in (Listing n conn g) = n
node_in (Groups n conn) = n

-- one node moves, if it is there
abbrev pub moved : WorldValue → ℕ → Option NodeValue → (NodeValue → NodeOutcome) → WorldValue
moved w n None move = w
moved w n (Some x) move = record { settings = w.settings; list = w.list; nodes = with_item w.nodes n (move x).0; sent = w.sent ++ (move x).1 }

-- the world after an event
abbrev pub happens : WorldValue → WorldEvent → WorldValue
happens w e = moved w (node_in e) (item w.nodes (node_in e)) (moves w.sent e)

-- the world after these events
abbrev pub runs : WorldValue → List WorldEvent → WorldValue
runs w [] = w
runs w (e ∷ es) = runs (happens w e) es

-- a new world: new nodes with that list, and the first token is sent
abbrev pub new_world : Settings → Listed → WorldValue
new_world s list = record { settings = s; list = list; nodes = map (λ n. new_value s n list) (up_to s.nodes); sent = frame.Token (first_token s) ∷ [] }

-- A world that some list of events leads to from a new one.
abbrev pub Reached : WorldValue → Type 0
Reached w = (events : List WorldEvent) × (runs (new_world w.settings w.list) events ≡ w)

-- the ring's part of a world: its nodes without their connections
abbrev pub ring_world : WorldValue → ring.World
ring_world w = record { nodes = map (λ x. x.ring.state) w.nodes; sent = w.sent }

-- the connection's entry, where it is open
abbrev pub entry_of : NodeValue → ℕ → Op → Option Client → List Entry
entry_of x conn op None = []
entry_of x conn op (Some c) = entry_by x conn c op ∷ []

-- no entry where the call is refused
abbrev pub if_admitted : Option Refusal → List Entry → List Entry
if_admitted None entries = entries
if_admitted (Some why) entries = []

-- the entry that an event admits at a node: a call's or an end's
abbrev pub admits : WorldEvent → NodeValue → List Entry
admits (Submit n conn call) x = if_admitted (submit_refusal x conn call) (entry_of x conn (Act call) (open_client x conn))
admits (Disconnect n conn) x = entry_of x conn Gone (open_client x conn)
admits _ x = []
