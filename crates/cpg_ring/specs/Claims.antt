-- What holds in every world that any list of events leads to.
use Rattle.std.specs.Prelude.{◌≡◌, ◌⊎◌, ◌↔◌, ℕ, suc, ◌<◌, ◌≤◌, if◌then◌else◌, nat_le, None, List, [], ◌∷◌, ◌++◌, length, Option, Some, slice_get, ◌==◌}
use Rattle.std.specs.List.{Contains, filter}
use Rattle.std.specs.FinMap.{get}
use Rattle.cpg_entry.specs.declared.frames.Frame.TheVariants as frame
use Rattle.cpg_cred.specs.declared.refusals.Refusal.TheVariants.{NotMine, Stale, RingEnd}
use Rattle.cpg_ring.specs.States.{Entry, Packet, Token, NodeState, Settings, Holds, safe_mark}
use Rattle.cpg_ring.specs.Visits.{node_of, token_refusal}
use Rattle.cpg_ring.specs.Moves.{is_full}
use Rattle.cpg_ring.specs.Worlds.{World, Event, Enqueue, EnqueueEnd, Arrive, Timer, Deliver, item, happens, start, run, agreed}

-- Of the tokens sent, copies apart: there is one for each hop from 0 to the newest's; only the newest can still be accepted, and by one node alone.
pub record IsChain (s : Settings) (w : World) (tokens : List Token) (newest : Token) : Type 0 where
  -- the world has as many nodes as its settings say
  pub nodes : length w.nodes ≡ s.nodes
  -- token h of the list has hop h and was sent
  pub sent_at_hop : (h : ℕ) (t : Token) → slice_get tokens h ≡ Some t → (t.hop ≡ h) × Contains w.sent (frame.Token t)
  -- each token that was sent is the list's at its hop
  pub one_each_hop : (t : Token) → Contains w.sent (frame.Token t) → slice_get tokens t.hop ≡ Some t
  -- the newest is the last of the list
  pub newest_is_last : (suc newest.hop ≡ length tokens) × (slice_get tokens newest.hop ≡ Some newest)
  -- a token that was sent and is accepted anywhere is the newest, at the node of its hop
  pub only_newest_accepted : (n : ℕ) (r : NodeState) (t : Token) → item w.nodes n ≡ Some r → Contains w.sent (frame.Token t) → token_refusal s n r t ≡ None → (t ≡ newest) × (n ≡ node_of s t.hop)
  -- at that node the newest is accepted, unless the ring's last hop was used
  pub newest_accepted : (r : NodeState) → item w.nodes (node_of s newest.hop) ≡ Some r → token_refusal s (node_of s newest.hop) r newest ≡ (if nat_le s.hops newest.hop then Some RingEnd else None)
  -- every lower hop is refused everywhere, as another node's or as stale
  pub older_refused : (n : ℕ) (r : NodeState) (t : Token) → item w.nodes n ≡ Some r → Contains w.sent (frame.Token t) → t.hop < newest.hop → (token_refusal s n r t ≡ Some NotMine) ⊎ (token_refusal s n r t ≡ Some Stale)
  -- data frames of one place are the same
  pub one_packet_each_place : (p q : Packet) → Contains w.sent (frame.Packet p) → Contains w.sent (frame.Packet q) → p.place ≡ q.place → p ≡ q
  -- the places of the data frames are 1 to the newest token's seq
  pub places_without_gap : (place : ℕ) → ((1 ≤ place) × (place ≤ newest.seq)) ↔ ((p : Packet) × (Contains w.sent (frame.Packet p)) × (p.place ≡ place))

-- Chain: the tokens sent are such a chain.
abbrev pub Chain : Settings → World → Type 0
Chain s w = (tokens : List Token) × (newest : Token) × IsChain s w tokens newest

-- Agreement: nodes that hold a place hold the same there, and each holds all that it delivered.
pub record Agreement (s : Settings) (w : World) : Type 0 where
  -- what a node holds at a place is the agreed list's entry there
  pub held_as_agreed : (n : ℕ) (r : NodeState) (place : ℕ) (e : Entry) → item w.nodes n ≡ Some r → get r.held place ≡ Some e → item (agreed w.sent) place ≡ Some e
  -- a node holds places 1 to the last that it delivered
  pub delivered_held : (n : ℕ) (r : NodeState) (place : ℕ) → item w.nodes n ≡ Some r → 1 ≤ place → place ≤ r.delivered → Holds r.held place

-- Safe: each node holds all places from 1 to any node's safe mark.
pub record Safe (s : Settings) (w : World) : Type 0 where
  pub held_up_to_mark : (n m : ℕ) (r q : NodeState) (place : ℕ) → item w.nodes n ≡ Some r → item w.nodes m ≡ Some q → 1 ≤ place → place ≤ safe_mark r.arus → Holds q.held place

-- those of the entries that are node n's
abbrev pub by_node : ℕ → List Entry → List Entry
by_node n entries = filter (λ e. e.node == n) entries

-- what waits at a node, if it is there
abbrev pub waiting_at : Option NodeState → List Entry
waiting_at None = []
waiting_at (Some r) = r.waiting

-- node n's entries that took places, and then those that wait
abbrev pub ring_entries : World → ℕ → List Entry
ring_entries w n = by_node n (agreed w.sent) ++ waiting_at (item w.nodes n)

-- a call is admitted at a node that is there and isn't full
abbrev pub if_room : Option NodeState → Entry → List Entry
if_room None e = []
if_room (Some r) e = if is_full r then [] else e ∷ []

-- the end of a connection is admitted at any node that is there
abbrev pub if_there : Option NodeState → Entry → List Entry
if_there None e = []
if_there (Some r) e = e ∷ []

-- what an event admits at node n
abbrev pub admits : World → ℕ → Event → List Entry
admits w n (Enqueue e) = if e.node == n then if_room (item w.nodes n) e else []
admits w n (EnqueueEnd e) = if e.node == n then if_there (item w.nodes n) e else []
admits w n (Arrive m k) = []
admits w n (Timer m) = []
admits w n (Deliver m) = []

-- the calls and ends that these events admit at node n, in order
abbrev pub admitted : Settings → World → ℕ → List Event → List Entry
admitted s w n [] = []
admitted s w n (e ∷ es) = admits w n e ++ admitted s (happens s w e) n es

-- Once, in order: a node's entries take places in the order in which they were admitted, each once.
pub record OnceInOrder (s : Settings) (w : World) : Type 0 where
  -- whatever events led here from a new world: the entries placed are a beginning of those that they admitted, and the others wait
  pub placed_as_admitted : (n : ℕ) (events : List Event) → run s (start s) events ≡ w → ring_entries w n ≡ admitted s (start s) n events
  -- and what later events admit comes after those
  pub later_after : (n : ℕ) (events : List Event) → ring_entries (run s w events) n ≡ ring_entries w n ++ admitted s w n events
