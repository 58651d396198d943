-- A ring of one node, which turns by itself until nothing moves.
use Rattle.std.specs.Prelude.{◌≡◌, ◌⊎◌, ◌<◌, ◌≤◌, ◌+◌, ◌*◌, ℕ, false, List, [], ◌++◌, length, Option, Some, None}
use Rattle.std.specs.List.{AllByRecursion}
use Rattle.std.specs.FinMap.{get}
use Rattle.cpg_cred.specs.declared.refusals.Refusal.{Refusal}
use Rattle.cpg_cred.specs.declared.refusals.Refusal.TheVariants.{Memory, RingEnd}
use Rattle.cpg_entry.specs.declared.entries.Entry.{Entry}
use Rattle.cpg_entry.specs.declared.frames.Token.{Token}
use Rattle.cpg_ring.specs.Laws.{AllHeld}
use Rattle.cpg_ring.specs.Rings.{RingNode, new_ring_node, visited}
use Rattle.cpg_ring.specs.Moves.{first_token}
use Rattle.cpg_ring.specs.Visits.{is_past}
use Rattle.cpg_ring.specs.Worlds.{item}
use Rattle.cpg_ring.specs.declared.settings.Settings.{Settings}
use Rattle.cpg_ring.specs.declared.settings.TheConstants.{BURST}
use Rattle.cpg_node.specs.Nodes.{NodeValue}
use Rattle.cpg_node.specs.Calls.{place_to_deliver}
use Rattle.cpg_ask.specs.declared.greetings.Greeting.{Greeting}
use Rattle.cpg_serve.specs.Telling.{DeskValue}
use Rattle.cpg_serve.specs.Asking.{at_of}
use Rattle.cpg_serve.specs.Coming.{left_of}
use Rattle.cpg_serve.specs.Serving.{ServedValue, served_of}
use Rattle.cpg_serve.specs.Runs.{Did, Frames, Delivers, Tells, Run}

-- A ring of one node that heard no frame but its own token: the token that it sent last comes next, these entries have
-- the places up to the token's, and no other place is held.
pub record IsLone (x : RingNode) (t : Token) (placed : List Entry) : Type 0 where
  pub one : x.settings.nodes ≡ 1
  pub node : x.node ≡ 1
  pub last : x.state.last_token ≡ Some t
  pub ring : t.ring ≡ x.settings.ring
  pub hop : is_past t.hop x.state.last_hop ≡ false
  pub seq : length placed ≡ t.seq
  pub held : AllHeld x.state.held t.seq
  pub agrees : (place : ℕ) (e : Entry) → get x.state.held place ≡ Some e → item placed place ≡ Some e
  pub within : t.seq ≤ x.settings.places
  pub delivered : x.state.delivered ≤ t.seq

-- After turns of such a ring: it is such a ring still, and its entries, those that have places and then those that
-- wait, are those before, in their order.
pub record TurnedTo (placed : List Entry) (x y : RingNode) : Type 0 where
  pub token : Token
  pub more : List Entry
  pub is : IsLone y token more
  pub same : more ++ y.state.waiting ≡ placed ++ x.state.waiting

-- such a ring, whoever asks
abbrev pub StaysLone : RingNode → RingNode → Type 0
StaysLone x y = (t : Token) (placed : List Entry) → IsLone x t placed → TurnedTo placed x y

-- each turn between them placed as many entries as a turn may, but for the last one
abbrev pub InTurns : RingNode → Token → RingNode → Token → Type 0
InTurns x t y u = BURST * u.hop + length y.state.waiting < BURST * t.hop + length x.state.waiting + BURST

-- as many as a turn may, where places are left
pub record IsBrisk (x y : RingNode) : Type 0 where
  pub turns : (t u : Token) (placed more : List Entry) → IsLone x t placed → IsLone y u more → InTurns x t y u
  pub full : (t u : Token) (placed more : List Entry) → IsLone x t placed → IsLone y u more → 0 < length y.state.waiting → u.seq < y.settings.places
      → BURST * u.hop + length y.state.waiting ≤ BURST * t.hop + length x.state.waiting

-- nothing waits, and nothing is to be delivered
abbrev pub IsStill : NodeValue → Type 0
IsStill x = (x.ring.state.waiting ≡ []) × (place_to_deliver x ≡ None)

-- what a ring does by itself, and what tells a client what was delivered
abbrev pub IsOwnMove : Did → Type 0
IsOwnMove Frames = Unit {0}
IsOwnMove Delivers = Unit {0}
IsOwnMove (Tells conn) = Unit {0}
IsOwnMove _ = ⊥

-- some run of such moves leads there
abbrev pub MovesTo : ServedValue → ServedValue → Type 0
MovesTo x y = (dids : List Did) × AllByRecursion IsOwnMove dids × Run x dids y

-- and a ring of one node that heard no other's frame stays one
abbrev pub MovesOn : ServedValue → ServedValue → Type 0
MovesOn x y = MovesTo x y × StaysLone x.node.ring y.node.ring

-- the same of the node, whoever its clients are
abbrev pub NodeMovesTo : NodeValue → NodeValue → Type 0
NodeMovesTo x y = (greeting : Greeting) (desks : List DeskValue) → MovesTo (served_of greeting x desks) (served_of greeting y desks)

-- the client was told all
abbrev pub ToldAll : ServedValue → ℕ → Type 0
ToldAll x conn = (d : DeskValue) → item x.desks conn ≡ Some d → left_of conn (at_of x.node d) ≡ []

-- the ring's places are used up, or its hops, where each turn since then placed as many entries as it may
abbrev pub IsUsedUp : RingNode → RingNode → Token → Type 0
IsUsedUp x y t = (y.settings.places ≤ t.seq) ⊎ ((y.settings.hops ≤ t.hop) × IsBrisk x y)

-- why a ring of one node does not come to rest: there was no memory; or entries wait, and its places or hops are used up
abbrev pub WhyMoving : RingNode → RingNode → Refusal → Type 0
WhyMoving x y why = (why ≡ Memory) ⊎ ((why ≡ RingEnd) × (0 < length y.state.waiting) × ((t : Token) × (y.state.last_token ≡ Some t) × IsUsedUp x y t))

-- why a turn of it places nothing: the same, where the last hop leaves the node as it was
abbrev pub WhyStuck : RingNode → RingNode → Refusal → Type 0
WhyStuck x y why = (why ≡ Memory) ⊎ ((why ≡ RingEnd) × (0 < length y.state.waiting) × ((t : Token) × (y.state.last_token ≡ Some t) × ((y.settings.places ≤ t.seq) ⊎ ((y.settings.hops ≤ t.hop) × (y ≡ x)))))

-- the same node of a ring of the same settings, with the same list
pub record IsAlike (x y : NodeValue) : Type 0 where
  pub settings : y.ring.settings ≡ x.ring.settings
  pub number : y.ring.node ≡ x.ring.node
  pub list : y.list ≡ x.list

-- Places were delivered, and nothing else was done.
pub record HasDelivered (x y : NodeValue) : Type 0 where
  pub moves : NodeMovesTo x y
  pub lone : StaysLone x.ring y.ring
  pub alike : IsAlike x y
  pub clients : y.clients ≡ x.clients
  pub waiting : y.ring.state.waiting ≡ x.ring.state.waiting
  pub last : y.ring.state.last_token ≡ x.ring.state.last_token

-- the token was accepted once
abbrev pub IsTurn : RingNode → RingNode → Type 0
IsTurn x y = (t : Token) × (x.state.last_token ≡ Some t) × (y ≡ visited x t)

-- The node turned by itself.
pub record HasTurned (x y : NodeValue) : Type 0 where
  pub moves : NodeMovesTo x y
  pub lone : StaysLone x.ring y.ring
  pub alike : IsAlike x y
  pub clients : y.clients ≡ x.clients

-- no frame is heard
abbrev pub IsFrameless : Did → Type 0
IsFrameless Frames = ⊥
IsFrameless _ = Unit {0}

-- A new ring of one node is such a ring.
abbrev pub LoneBegins : Type 0
LoneBegins = (s : Settings) → s.nodes ≡ 1 → IsLone (new_ring_node s 1) (first_token s) []

-- It stays one, with the same entries at its places, over any run in which no frame is heard.
abbrev pub LoneStays : Type 0
LoneStays = (x y : ServedValue) (dids : List Did) → Run x dids y → AllByRecursion IsFrameless dids
    → (t : Token) (placed : List Entry) → IsLone x.node.ring t placed → IsLone y.node.ring t placed
