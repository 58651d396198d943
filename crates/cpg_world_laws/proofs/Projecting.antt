-- Each event of a world is at most one event of its ring.
use Rattle.std.proofs.Common.{◌≡◌, ℕ, suc, Bool, true, false, List, [], ◌∷◌, ◌++◌, map, Option, Some, None, refl, sym, ap, ◌∙◌, append-nil, option_map, if◌then◌else◌}
use Rattle.std.proofs.lemmas.Option.{none-some}
use Rattle.cpg_cred.specs.declared.refusals.Refusal.TheVariants.{QueueFull}
use Rattle.cpg_entry.specs.declared.calls.Call.{Call}
use Rattle.cpg_entry.specs.declared.calls.Op.TheVariants.{Act, Gone}
use Rattle.cpg_entry.specs.declared.frames.Frame.TheVariants as frame
use Rattle.cpg_record.specs.declared.events.Event.{Event}
use Rattle.cpg_ring.specs.States.{Entry, Token, Frame, Refusal, NodeState, is_held}
use Rattle.cpg_ring.specs.Visits.{token_refusal}
use Rattle.cpg_ring.specs.Moves.{data_refusal, is_full, after_entry, after_delivery}
use Rattle.cpg_ring.specs.Worlds as ring
use Rattle.cpg_ring.specs.Worlds.{item, with_item, Enqueue, EnqueueEnd, Arrive, Timer as Timeout, Deliver as Delivery, enqueue, enqueue_end, receive, receive_token, receive_data, send_again, deliver}
use Rattle.cpg_node.specs.declared.connections.Client.{Client}
use Rattle.cpg_node.specs.Nodes.{NodeValue, open_client, entry_by}
use Rattle.cpg_node.specs.Calls.{connect_refusal, connected, submit_refusal_by, submit_refusal, with_entry, ended_by, call_refusal, first_of, after_frame, answers_to, node_after_delivery, took, node_after_take, counted, next_event}
use Rattle.cpg_world_laws.specs.declared.events.WorldEvent.{WorldEvent}
use Rattle.cpg_world_laws.specs.declared.events.WorldEvent.TheVariants.{Connect, Submit, Disconnect, Frame as Arrival, Timer, Deliver, Take, List as Listing, Groups}
use Rattle.cpg_world_laws.specs.Worlds.{WorldValue, NodeOutcome, unless, hears, moves, node_in, moved, happens, ring_world, entry_of, if_admitted, admits}
use Rattle.cpg_world_laws.proofs.Lists.{item_map, map_with, with_as}

abbrev pub state_of : NodeValue → NodeState
state_of x = x.ring.state

-- the node has the world's settings and list, and its own number
pub record Stands (w : WorldValue) (n : ℕ) (x : NodeValue) : Type 0 where
  pub settings : x.ring.settings ≡ w.settings
  pub number : x.ring.node ≡ n
  pub list : x.list ≡ w.list

abbrev pub Numbered : WorldValue → Type 0
Numbered w = (n : ℕ) (x : NodeValue) → item w.nodes n ≡ Some x → Stands w n x

-- the ring's event of an event at a node that is there
abbrev pub event_at : WorldEvent → NodeValue → List ring.Event
event_at (Submit n conn call) x = map Enqueue (admits (Submit n conn call) x)
event_at (Disconnect n conn) x = map EnqueueEnd (admits (Disconnect n conn) x)
event_at (Arrival n k) x = Arrive n k ∷ []
event_at (Timer n) x = Timeout n ∷ []
event_at (Deliver n) x = Delivery n ∷ []
event_at (Connect n pid cred) x = []
event_at (Take n conn) x = []
event_at (Listing n conn g) x = []
event_at (Groups n conn) x = []

abbrev pub event_if : WorldEvent → Option NodeValue → List ring.Event
event_if e None = []
event_if e (Some x) = event_at e x

abbrev pub ring_event : WorldValue → WorldEvent → List ring.Event
ring_event w e = event_if e (item w.nodes (node_in e))

abbrev pub ring_events : WorldValue → List WorldEvent → List ring.Event
ring_events w [] = []
ring_events w (e ∷ es) = ring_event w e ++ ring_events (happens w e) es

-- a node moves in the ring as it does in the world
pub record Same (m : NodeOutcome) (r : ring.RingOutcome) : Type 0 where
  pub state : state_of m.0 ≡ r.0
  pub sent : m.1 ≡ r.1

-- nothing of the ring moves
abbrev pub Still : NodeValue → NodeOutcome → Type 0
Still x m = Same m (state_of x, [])

-- the ring's part of a world where a node moved
ring_moved : (w : WorldValue) (n : ℕ) (m : NodeOutcome) (r : ring.RingOutcome) → Same m r → ◌≡◌ {A = ring.World} (record { nodes = map state_of (with_item w.nodes n m.0); sent = w.sent ++ m.1 }) (record { nodes = with_item (map state_of w.nodes) n r.0; sent = w.sent ++ r.1 })
ring_moved w n m r same =
    ap (λ (nodes : List NodeState). let world : ring.World = record { nodes = nodes; sent = w.sent ++ m.1 } in world) (map_with state_of w.nodes n m.0 ∙ ap (with_item (map state_of w.nodes) n) same.state)
    ∙ ap (λ (more : List Frame). let world : ring.World = record { nodes = with_item (map state_of w.nodes) n r.0; sent = w.sent ++ more } in world) same.sent

pub item_state : (w : WorldValue) (n : ℕ) (o : Option NodeValue) → item w.nodes n ≡ o → item (map state_of w.nodes) n ≡ option_map state_of o
item_state w n o is = item_map state_of w.nodes n ∙ ap (option_map state_of) is

-- where nothing of the ring moves, the ring's part stays
pub still : (w : WorldValue) (n : ℕ) (x : NodeValue) (m : NodeOutcome) → item w.nodes n ≡ Some x → Still x m → ring_world (moved w n (Some x) (λ _. m)) ≡ ring_world w
still w n x m is s = ring_moved w n m (state_of x, []) s
    ∙ (ap (λ (nodes : List NodeState). let world : ring.World = record { nodes = nodes; sent = w.sent ++ [] } in world) (with_as (map state_of w.nodes) n (state_of x) (item_state w n (Some x) is))
    ∙ ap (λ (sent : List Frame). let world : ring.World = record { nodes = map state_of w.nodes; sent = sent } in world) (append-nil w.sent))

-- where it moves as the ring's event does, so does the ring's part
moves_as : (w : WorldValue) (n : ℕ) (x : NodeValue) (m : NodeOutcome) (move : NodeState → ring.RingOutcome) → item w.nodes n ≡ Some x → Same m (move (state_of x)) → ring_world (moved w n (Some x) (λ _. m)) ≡ ring.moved (ring_world w) n (item (ring_world w).nodes n) move
moves_as w n x m move is s = ring_moved w n m (move (state_of x)) s ∙ ap (λ o. ring.moved (ring_world w) n o move) (sym (item_state w n (Some x) is))

still_unless : (r : Option Refusal) (x : NodeValue) (m : NodeOutcome) → Still x m → Still x (unless r x m)
still_unless None x m s = s
still_unless (Some why) x m s = record { state = refl; sent = refl }

still_took : (x : NodeValue) (conn : ℕ) → Still x (took x conn, [])
still_took x conn = by_client (open_client x conn)
  where
    by_event : (c : Client) (o : Option Event) → Still x (counted x conn c o, [])
    by_event c None = record { state = refl; sent = refl }
    by_event c (Some event) = record { state = refl; sent = refl }

    by_client : (o : Option Client) → Still x (node_after_take x conn o, [])
    by_client None = record { state = refl; sent = refl }
    by_client (Some c) = by_event c (next_event x conn c)

again_same : (x : NodeValue) → Same (x, (send_again x.ring.state x.ring.state.last_token).1) (send_again x.ring.state x.ring.state.last_token)
again_same x = by_token x.ring.state.last_token
  where
    by_token : (o : Option Token) → Same (x, (send_again x.ring.state o).1) (send_again x.ring.state o)
    by_token None = record { state = refl; sent = refl }
    by_token (Some t) = record { state = refl; sent = refl }

delivers_same : (x : NodeValue) → Same (node_after_delivery x, []) (deliver x.ring.state)
delivers_same x = record { state = refl; sent = by_test (is_held x.ring.state.held (suc x.ring.state.delivered)) }
  where
    by_test : (b : Bool) → [] ≡ (let move : ring.RingOutcome = if b then (after_delivery x.ring.state, []) else (x.ring.state, []) in move.1)
    by_test true = refl
    by_test false = refl

hears_same : (x : NodeValue) (o : Option Frame) → Same (hears o x) (receive x.ring.settings x.ring.node o x.ring.state)
hears_same x None = record { state = refl; sent = refl }
hears_same x (Some (frame.Packet p)) = by_refusal (data_refusal x.ring.settings x.ring.state p) refl
  where
    by_refusal : (r : Option Refusal) → data_refusal x.ring.settings x.ring.state p ≡ r → Same (unless r x (after_frame x (frame.Packet p), answers_to x (frame.Packet p))) (receive_data x.ring.state p r)
    by_refusal (Some why) is = record { state = refl; sent = refl }
    by_refusal None is = record { state = ap (λ r. (receive_data x.ring.state p r).0) is; sent = ap (λ r. (receive_data x.ring.state p r).1) is }
hears_same x (Some (frame.Token t)) = by_refusal (token_refusal x.ring.settings x.ring.node x.ring.state t) refl
  where
    by_refusal : (r : Option Refusal) → token_refusal x.ring.settings x.ring.node x.ring.state t ≡ r → Same (unless r x (after_frame x (frame.Token t), answers_to x (frame.Token t))) (receive_token x.ring.settings x.ring.node x.ring.state t r)
    by_refusal (Some why) is = record { state = refl; sent = refl }
    by_refusal None is = record { state = ap (λ r. (receive_token x.ring.settings x.ring.node x.ring.state t r).0) is; sent = ap (λ r. (receive_token x.ring.settings x.ring.node x.ring.state t r).1) is }

-- A submitted call is the ring's Enqueue of its entry, and nothing where it is refused.
submits : (w : WorldValue) (n conn : ℕ) (call : Call) (x : NodeValue) → item w.nodes n ≡ Some x → x.ring.node ≡ n → (o : Option Client) → (r : Option Refusal) → submit_refusal_by x call o ≡ r →
    ring_world (moved w n (Some x) (λ _. unless r x (with_entry x conn (Act call) o, []))) ≡ ring.run w.settings (ring_world w) (map Enqueue (if_admitted r (entry_of x conn (Act call) o)))
submits w n conn call x is number o (Some why) r = still w n x (x, []) is (record { state = refl; sent = refl })
submits w n conn call x is number None None r = absurd (none-some _ (sym r))
submits w n conn call x is number (Some c) None r = by_full (is_full x.ring.state) refl r
  where
    e : Entry
    e = entry_by x conn c (Act call)

    no_refusal : (t : Option Refusal) → first_of t (Some QueueFull) ≡ None → ⊥
    no_refusal None h = none-some _ (sym h)
    no_refusal (Some why) h = none-some _ (sym h)

    by_full : (b : Bool) → is_full x.ring.state ≡ b → first_of (call_refusal call) (if b then Some QueueFull else None) ≡ None → ring_world (moved w n (Some x) (λ _. (with_entry x conn (Act call) (Some c), []))) ≡ ring.run w.settings (ring_world w) (Enqueue e ∷ [])
    by_full true full h = absurd (no_refusal (call_refusal call) h)
    by_full false full h =
        moves_as w n x (with_entry x conn (Act call) (Some c), []) (enqueue e) is (record {
          state = sym (ap (λ b. let move : ring.RingOutcome = if b then (x.ring.state, []) else (after_entry x.ring.state e, []) in move.0) full);
          sent = sym (ap (λ b. let move : ring.RingOutcome = if b then (x.ring.state, []) else (after_entry x.ring.state e, []) in move.1) full);
        })
        ∙ ap (λ m. ring.moved (ring_world w) m (item (ring_world w).nodes m) (enqueue e)) (sym number)

ends : (w : WorldValue) (n conn : ℕ) (x : NodeValue) → item w.nodes n ≡ Some x → x.ring.node ≡ n → (o : Option Client) →
    ring_world (moved w n (Some x) (λ _. (ended_by x conn o, []))) ≡ ring.run w.settings (ring_world w) (map EnqueueEnd (entry_of x conn Gone o))
ends w n conn x is number None = still w n x (x, []) is (record { state = refl; sent = refl })
ends w n conn x is number (Some c) =
    moves_as w n x (ended_by x conn (Some c), []) (enqueue_end (entry_by x conn c Gone)) is (record { state = refl; sent = refl })
    ∙ ap (λ m. ring.moved (ring_world w) m (item (ring_world w).nodes m) (enqueue_end (entry_by x conn c Gone))) (sym number)

arrives : (w : WorldValue) (n k : ℕ) (x : NodeValue) → item w.nodes n ≡ Some x → Stands w n x → ring_world (moved w n (Some x) (λ _. hears (item w.sent k) x)) ≡ ring.happens w.settings (ring_world w) (Arrive n k)
arrives w n k x is stands =
    moves_as w n x (hears (item w.sent k) x) (receive x.ring.settings x.ring.node (item w.sent k)) is (hears_same x (item w.sent k))
    ∙ (ap (λ s. ring.moved (ring_world w) n (item (ring_world w).nodes n) (receive s x.ring.node (item w.sent k))) stands.settings
    ∙ ap (λ m. ring.moved (ring_world w) n (item (ring_world w).nodes n) (receive w.settings m (item w.sent k))) stands.number)

at_node : (w : WorldValue) (e : WorldEvent) (x : NodeValue) → item w.nodes (node_in e) ≡ Some x → Stands w (node_in e) x → ring_world (moved w (node_in e) (Some x) (moves w.sent e)) ≡ ring.run w.settings (ring_world w) (event_at e x)
at_node w (Connect n pid cred) x is s = still w n x _ is (still_unless (connect_refusal x cred) x (connected x pid cred, []) (record { state = refl; sent = refl }))
at_node w (Submit n conn call) x is s = submits w n conn call x is s.number (open_client x conn) (submit_refusal x conn call) refl
at_node w (Disconnect n conn) x is s = ends w n conn x is s.number (open_client x conn)
at_node w (Arrival n k) x is s = arrives w n k x is s
at_node w (Timer n) x is s = moves_as w n x _ (λ r. send_again r r.last_token) is (again_same x)
at_node w (Deliver n) x is s = moves_as w n x _ deliver is (delivers_same x)
at_node w (Take n conn) x is s = still w n x _ is (still_took x conn)
at_node w (Listing n conn g) x is s = still w n x (x, []) is (record { state = refl; sent = refl })
at_node w (Groups n conn) x is s = still w n x (x, []) is (record { state = refl; sent = refl })

-- The ring's part of the world after an event is what the ring's event makes of it.
pub projects : (w : WorldValue) (e : WorldEvent) → Numbered w → ring_world (happens w e) ≡ ring.run w.settings (ring_world w) (ring_event w e)
projects w e numbered = by_node (item w.nodes (node_in e)) refl
  where
    by_node : (o : Option NodeValue) → item w.nodes (node_in e) ≡ o → ring_world (moved w (node_in e) o (moves w.sent e)) ≡ ring.run w.settings (ring_world w) (event_if e o)
    by_node None is = refl
    by_node (Some x) is = at_node w e x is (numbered (node_in e) x is)
