-- All nodes of a ring, and every frame that was ever sent. Frames are counted from 1; they arrive any number of times and in any order,
-- and a loss is a frame that no event brings.
use Rattle.std.specs.Prelude.{◌≡◌, ℕ, zero, suc, List, [], ◌∷◌, ◌++◌, length, map, set, Option, Some, None, if◌then◌else◌, ◌==◌, slice_get}
use Rattle.cpg_entry.specs.declared.frames.Frame.TheVariants as frame
use Rattle.cpg_ring.specs.States.{Entry, Packet, Token, Frame, Refusal, Settings, NodeState, is_held}
use Rattle.cpg_ring.specs.Visits.{VisitStep, token_refusal, visit_step, after_visit, up_to}
use Rattle.cpg_ring.specs.Moves.{data_refusal, after_data, is_full, after_entry, after_delivery, first_token, new_node}

-- item i of a list, counted from 1
abbrev pub item : {X : Type 0} → List X → ℕ → Option X
item xs zero = None
item xs (suc i) = slice_get xs i

-- the list with item i changed
abbrev pub with_item : {X : Type 0} → List X → ℕ → X → List X
with_item xs zero x = xs
with_item xs (suc i) x = set xs i x

pub record World : Type 0 where
  -- node n's state is item n
  pub nodes : List NodeState
  -- every frame sent, in order
  pub sent : List Frame

-- What may happen.
pub data Event : Type 0 where
  -- a call is put among the waiting entries of its node
  Enqueue : (entry : Entry) → Event
  -- the end of a connection is
  EnqueueEnd : (entry : Entry) → Event
  -- frame k arrives at the node
  Arrive : (node k : ℕ) → Event
  -- the node sends its last token again
  Timer : (node : ℕ) → Event
  -- the node delivers the next place, if it holds it
  Deliver : (node : ℕ) → Event

-- a node's state after an event, and what it sends
abbrev pub RingOutcome : Type 0
RingOutcome = NodeState × List Frame

-- a call waits unless the node is full
abbrev pub enqueue : Entry → NodeState → RingOutcome
enqueue e r = if is_full r then (r, []) else (after_entry r e, [])

-- an end waits always
abbrev pub enqueue_end : Entry → NodeState → RingOutcome
enqueue_end e r = (after_entry r e, [])

-- an accepted visit sends its packets, and then the token
abbrev pub accept : NodeState → Token → VisitStep → RingOutcome
accept r t v = (after_visit r t v, map frame.Packet v.packets ++ frame.Token v.token ∷ [])

-- a token comes that is refused, or not
abbrev pub receive_token : Settings → ℕ → NodeState → Token → Option Refusal → RingOutcome
receive_token s n r t (Some why) = (r, [])
receive_token s n r t None = accept r t (visit_step s n r t)

-- a packet comes that is refused, or not
abbrev pub receive_data : NodeState → Packet → Option Refusal → RingOutcome
receive_data r p (Some why) = (r, [])
receive_data r p None = (after_data r p, [])

-- a frame comes, if there is one
abbrev pub receive : Settings → ℕ → Option Frame → NodeState → RingOutcome
receive s n None r = (r, [])
receive s n (Some (frame.Packet p)) r = receive_data r p (data_refusal s r p)
receive s n (Some (frame.Token t)) r = receive_token s n r t (token_refusal s n r t)

-- the last token goes out again, if there is one
abbrev pub send_again : NodeState → Option Token → RingOutcome
send_again r None = (r, [])
send_again r (Some t) = (r, frame.Token t ∷ [])

-- the next place is delivered, if it is held
abbrev pub deliver : NodeState → RingOutcome
deliver r = if is_held r.held (suc r.delivered) then (after_delivery r, []) else (r, [])

-- one node moves, if it is there
abbrev pub moved : World → ℕ → Option NodeState → (NodeState → RingOutcome) → World
moved w n None move = w
moved w n (Some r) move = record { nodes = with_item w.nodes n (move r).0; sent = w.sent ++ (move r).1 }

-- the world after an event
abbrev pub happens : Settings → World → Event → World
happens s w (Enqueue e) = moved w e.node (item w.nodes e.node) (enqueue e)
happens s w (EnqueueEnd e) = moved w e.node (item w.nodes e.node) (enqueue_end e)
happens s w (Arrive n k) = moved w n (item w.nodes n) (receive s n (item w.sent k))
happens s w (Timer n) = moved w n (item w.nodes n) (λ r. send_again r r.last_token)
happens s w (Deliver n) = moved w n (item w.nodes n) deliver

-- the world after these events
abbrev pub run : Settings → World → List Event → World
run s w [] = w
run s w (e ∷ es) = run s (happens s w e) es

-- a new world: new nodes, and the first token is sent
abbrev pub start : Settings → World
start s = record { nodes = map (new_node s) (up_to s.nodes); sent = frame.Token (first_token s) ∷ [] }

-- A world that some list of events leads to from a new one.
abbrev pub Reached : Settings → World → Type 0
Reached s w = (events : List Event) × (run s (start s) events ≡ w)

-- the entry of the first data frame with this place
abbrev pub entry_sent : List Frame → ℕ → Option Entry
entry_sent [] place = None
entry_sent (frame.Token t ∷ rest) place = entry_sent rest place
entry_sent (frame.Packet p ∷ rest) place = if p.place == place then Some p.entry else entry_sent rest place

-- that entry and the rest, as far as there is one
abbrev pub if_some : Option Entry → List Entry → List Entry
if_some None rest = []
if_some (Some e) rest = e ∷ rest

-- the entries sent with this place, the next, and so on, as far as there are any, at most so many
abbrev pub entries_from : List Frame → ℕ → ℕ → List Entry
entries_from sent place zero = []
entries_from sent place (suc more) = if_some (entry_sent sent place) (entries_from sent (suc place) more)

-- The agreed list: the entries sent with place 1, place 2, and so on, as far as there are such frames.
abbrev pub agreed : List Frame → List Entry
agreed sent = entries_from sent 1 (length sent)
