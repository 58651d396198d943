-- No dead end, for all nodes and their connections: what was lost can be recovered, and told.
use Rattle.std.specs.Prelude.{◌≡◌, ℕ, min, ◌<◌, ◌≤◌, List, length, Some}
use Rattle.std.specs.List.{All}
use Rattle.cpg_record.specs.Events.{inbox}
use Rattle.cpg_record.specs.Judging.{judged}
use Rattle.cpg_ring.specs.Worlds.{item, agreed}
use Rattle.cpg_ring.specs.Progress.{AllDelivered, NoneWaits, wanted_places}
use Rattle.cpg_node.specs.declared.connections.Client.{Client}
use Rattle.cpg_node.specs.Nodes.{NodeValue, open_client, conn_id}
use Rattle.cpg_world_laws.specs.declared.events.WorldEvent.{WorldEvent}
use Rattle.cpg_world_laws.specs.declared.events.WorldEvent.TheVariants.{Frame as Arrival, Timer, Deliver, Take}
use Rattle.cpg_world_laws.specs.Worlds.{WorldValue, runs, ring_world}
use Rattle.cpg_world_laws.specs.Claims.{had}

-- a frame arrives, a place is delivered, or a connection takes
abbrev pub IsHearing : WorldEvent → Type 0
IsHearing (Arrival n k) = Unit {0}
IsHearing (Deliver n) = Unit {0}
IsHearing (Take n conn) = Unit {0}
IsHearing _ = ⊥

-- the first so many frames are lost for good: none of them arrives; and nobody connects, submits or ends
abbrev pub IsAfterLoss : ℕ → WorldEvent → Type 0
IsAfterLoss lost (Arrival n k) = lost < k
IsAfterLoss lost (Timer n) = Unit {0}
IsAfterLoss lost (Deliver n) = Unit {0}
IsAfterLoss lost (Take n conn) = Unit {0}
IsAfterLoss lost _ = ⊥

-- every open connection has had all that the agreed list has for it, item by item
abbrev pub AllTold : WorldValue → Type 0
AllTold w = (n conn : ℕ) (x : NodeValue) (c : Client) → item w.nodes n ≡ Some x → open_client x conn ≡ Some c → had (Some x) conn ≡ inbox (judged (agreed w.sent)) (conn_id x conn)

-- Catches up: frames sent already can still arrive so that every node delivers all that is agreed, and every open connection has it.
pub record CatchesUp (w : WorldValue) : Type 0 where
  pub events : List WorldEvent
  -- frames arrive, places are delivered and connections take, no more
  pub hearing : All IsHearing events
  pub delivered : AllDelivered (ring_world (runs w events))
  pub told : AllTold (runs w events)
  -- meanwhile nothing is sent
  pub sent : (runs w events).sent ≡ w.sent

-- Recovers: though every frame sent so far is lost for good, all that is agreed can be delivered everywhere and told, and all that waits can take its place.
pub record Recovers (w : WorldValue) : Type 0 where
  pub events : List WorldEvent
  -- nobody connects, submits or ends, and only frames arrive that are sent from now on
  pub after_loss : All (IsAfterLoss (length w.sent)) events
  pub delivered : AllDelivered (ring_world (runs w events))
  pub told : AllTold (runs w events)
  -- as many places are agreed as are wanted, as far as the ring has them
  pub placed : length (agreed (runs w events).sent) ≡ min w.settings.places (wanted_places (ring_world w))
  -- so nothing waits, where it has them all
  pub waiting : wanted_places (ring_world w) ≤ w.settings.places → NoneWaits (ring_world (runs w events))
