-- A bounded wait, for all nodes and their connections: what every fair stretch of events brings about.
use Rattle.std.specs.Prelude.{◌≡◌, ℕ, zero, suc, ◌+◌, ◌≤◌, List, [], ◌++◌, length, Some}
use Rattle.std.specs.List.{All, sum_by}
use Rattle.cpg_record.specs.Events.{inbox}
use Rattle.cpg_record.specs.Judging.{judged}
use Rattle.cpg_ring.specs.Visits.{up_to}
use Rattle.cpg_ring.specs.Worlds.{item, agreed}
use Rattle.cpg_ring.specs.Progress.{AllDelivered, wanted_places, most_agreed}
use Rattle.cpg_ring.specs.Fairness.{Bounded, GoodHop}
use Rattle.cpg_node.specs.declared.connections.Client.{Client}
use Rattle.cpg_node.specs.Nodes.{NodeValue, open_client, conn_id}
use Rattle.cpg_world_laws.specs.declared.events.WorldEvent.{WorldEvent}
use Rattle.cpg_world_laws.specs.Worlds.{WorldValue, runs, ring_world}
use Rattle.cpg_world_laws.specs.Claims.{had, inbox_at, admitted}
use Rattle.cpg_world_laws.specs.Progress.{IsHearing}

-- A good turn: any events (connections, calls, ends, frames of any age, timers, deliveries, takes, listings) in which the token makes one hop
-- and no packet that is sent is lost.
pub record GoodTurn (w v : WorldValue) : Type 0 where
  pub events : List WorldEvent
  pub leads : runs w events ≡ v
  pub good : GoodHop (ring_world w) (ring_world v)

-- so many good turns, one after another
abbrev pub Fair : ℕ → WorldValue → WorldValue → Type 0
Fair zero w v = w ≡ v
Fair (suc more) w v = (x : WorldValue) × GoodTurn w x × Fair more x v

-- all events of these turns, in order
abbrev pub events_of : (turns : ℕ) (w v : WorldValue) → Fair turns w v → List WorldEvent
events_of zero w v is = []
events_of (suc more) w v (x, turn, rest) = turn.events ++ events_of more x v rest

-- how many calls and ends these events admit, at all nodes
abbrev pub all_admitted : WorldValue → List WorldEvent → ℕ
all_admitted w events = sum_by (λ n. length (admitted w n events)) (up_to w.settings.nodes)

-- What so many good turns bring about.
pub record BoundedWait (w v : WorldValue) (turns : ℕ) : Type 0 where
  -- of the ring: how soon all is recovered, and an entry has its place and is delivered everywhere
  pub ring : Bounded w.settings (ring_world w) (ring_world v) turns
  -- and where all is delivered, an open connection that took all that its node has for it has had all that the agreed list has for it
  pub told : (n conn : ℕ) (x : NodeValue) (c : Client) → AllDelivered (ring_world v) → item v.nodes n ≡ Some x → open_client x conn ≡ Some c → had (Some x) conn ≡ inbox_at (Some x) conn → had (Some x) conn ≡ inbox (judged (agreed v.sent)) (conn_id x conn)

-- Whatever events follow, as many entries more are agreed or wait as these events admit, no fewer and no more (`IsTrueRun` says which).
pub record GrowsAsAdmitted (w : WorldValue) (events : List WorldEvent) : Type 0 where
  pub wanted : wanted_places (ring_world (runs w events)) ≡ wanted_places (ring_world w) + all_admitted w events
  -- so at most as many places are agreed as are wanted at the beginning and one for each of these, as far as the ring has them
  pub agreed : length (agreed (runs w events).sent) ≤ most_agreed w.settings (ring_world w) (all_admitted w events)

-- A good turn is possible, in which frames arrive and places are delivered, no more.
pub record HasTurn (w : WorldValue) : Type 0 where
  pub events : List WorldEvent
  pub hearing : All IsHearing events
  pub good : GoodHop (ring_world w) (ring_world (runs w events))
