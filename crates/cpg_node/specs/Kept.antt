-- What is true of every node beside what it is.
use Rattle.std.specs.Prelude.{◌≡◌, ℕ, ◌≤◌, List, length, All, Some, IfSome}
use Rattle.std.specs.FinMap.{get}
use Rattle.cpg_entry.specs.declared.entries.Entry.{Entry}
use Rattle.cpg_entry.specs.Ranges.{IsEntry, IsPacket, IsToken}
use Rattle.cpg_ring.specs.Laws.{AllHeld}
use Rattle.cpg_ring.specs.Rings.{RingNode}
use Rattle.cpg_node.specs.declared.connections.Client.{Client}
use Rattle.cpg_node.specs.Nodes.{delivered_entries}
use Rattle.cpg_entry.specs.declared.ranges.TheConstants.{MOST_CONNECTIONS}

-- All that the node may send keeps the rules of a frame, and what it delivered is held.
pub record IsSound (x : RingNode) : Type 0 where
  pub delivered : AllHeld x.state.held x.state.delivered
  pub waiting : All IsEntry x.state.waiting
  pub held : (place : ℕ) (e : Entry) → get x.state.held place ≡ Some e → IsPacket (record { ring = x.settings.ring; place = place; entry = e })
  pub last_token : IfSome x.state.last_token IsToken

-- What a move of the ring leaves: it is as sound, it delivered the same entries, and it has its number.
pub record IsKeptBy (old new : RingNode) : Type 0 where
  pub sound : IsSound new
  pub judged : delivered_entries new.state ≡ delivered_entries old.state
  pub node : new.node ≡ old.node

-- What is true of every node's fields.
pub record IsNodeKept (id : ℕ) (ring : RingNode) (clients : List Client) (policy : List Entry) : Type 0 where
  -- the node knows its own number
  pub numbered : id ≡ ring.node
  -- what was delivered was judged, and nothing else
  pub judged : policy ≡ delivered_entries ring.state
  pub sound : IsSound ring
  pub counted : length clients ≤ MOST_CONNECTIONS
