-- A bounded wait: what every fair stretch of events brings about, and after how many hops of the token.
use Rattle.std.specs.Prelude.{◌≡◌, ◌⊎◌, ℕ, zero, suc, ◌+◌, ◌-◌, ◌*◌, ◌/◌, ◌<◌, ◌≤◌, List, [], ◌++◌, take, drop, length, Some}
use Rattle.std.specs.List.{All, Contains}
use Rattle.cpg_entry.specs.declared.frames.Frame.TheVariants as frame
use Rattle.cpg_ring.specs.declared.settings.TheConstants.{WINDOW}
use Rattle.cpg_ring.specs.States.{Entry, Packet, Token, Settings, NodeState, Holds}
use Rattle.cpg_ring.specs.Worlds.{World, Event, item, run, agreed}
use Rattle.cpg_ring.specs.Claims.{by_node}
use Rattle.cpg_ring.specs.Progress.{AllDelivered, DeliveredTo, IsHearing, wanted_places, all_admitted, most_agreed}

-- the token was sent, and none of a later hop
abbrev pub IsNewest : World → Token → Type 0
IsNewest w t = Contains w.sent (frame.Token t) × ((u : Token) → Contains w.sent (frame.Token u) → u.hop ≤ t.hop)

-- Between two worlds the token makes one hop, and no packet that is sent is lost. Of older frames all may be lost.
pub record GoodHop (w v : World) : Type 0 where
  -- the newest token makes one hop
  pub hop : (t u : Token) → IsNewest w t → IsNewest v u → u.hop ≡ suc t.hop
  -- at the end each node holds what was sent meanwhile, as far as it lay in the node's window at the beginning
  pub held : (p : Packet) (n : ℕ) (r q : NodeState) → Contains (drop (length w.sent) v.sent) (frame.Packet p) → item w.nodes n ≡ Some r → item v.nodes n ≡ Some q → p.place ≤ r.delivered + WINDOW → Holds q.held p.place
  -- and no node holds its next place undelivered
  pub delivered : (n : ℕ) (q : NodeState) → item v.nodes n ≡ Some q → ¬ Holds q.held (suc q.delivered)

-- A good turn: any events (calls, ends, frames of any age, timers, deliveries) that lead from a world to another by such a hop.
pub record GoodTurn (s : Settings) (w v : World) : Type 0 where
  pub events : List Event
  pub leads : run s w events ≡ v
  pub good : GoodHop w v

-- so many good turns, one after another
abbrev pub Fair : Settings → ℕ → World → World → Type 0
Fair s zero w v = w ≡ v
Fair s (suc more) w v = (x : World) × GoodTurn s w x × Fair s more x v

-- all events of these turns, in order
abbrev pub events_of : (s : Settings) (turns : ℕ) (w v : World) → Fair s turns w v → List Event
events_of s zero w v is = []
events_of s (suc more) w v (x, turn, rest) = turn.events ++ events_of s more x v rest

-- The turns in which so many places are recovered: for each 32 of them a round, and one more.
abbrev pub turns_for : Settings → ℕ → ℕ
turns_for s places = (places + 31) / 32 * suc s.nodes

-- The turns in which an entry takes its place before which so many wait at its node: for each 8 of these a round, and a last one.
abbrev pub rounds_for : Settings → ℕ → ℕ
rounds_for s before = suc (before / 8) * s.nodes

-- node n's next places in the agreed list went to these entries, in their order
abbrev pub Placed : World → World → ℕ → List Entry → Type 0
Placed w v n entries = (rest : List Entry) × (by_node n (agreed v.sent) ≡ by_node n (agreed w.sent) ++ (entries ++ rest))

-- They have their places, if the ring's places lasted, and all that is agreed is delivered everywhere.
pub record TookPlaces (s : Settings) (w v : World) (n : ℕ) (entries : List Entry) : Type 0 where
  pub placed : Placed w v n entries ⊎ (length (agreed v.sent) ≡ s.places)
  pub delivered : AllDelivered v

-- What so many good turns bring about, from one world to another, whatever is enqueued meanwhile.
pub record Bounded (s : Settings) (w v : World) (turns : ℕ) : Type 0 where
  -- Settles: every node delivers all that was agreed at the beginning.
  pub settles : (done : ℕ) → DeliveredTo w done → turns_for s (length (agreed w.sent) - done) ≤ turns → DeliveredTo v (length (agreed w.sent))
  -- Stays settled: where every node delivered all that is agreed, it is so at the end.
  pub stays_settled : AllDelivered w → AllDelivered v
  -- The wait where all is delivered: an entry before which so many wait at its node has its place, and so have those before it.
  pub waits_settled : (n before : ℕ) (r : NodeState) → item w.nodes n ≡ Some r → before < length r.waiting → AllDelivered w → rounds_for s before ≤ turns → TookPlaces s w v n (take (suc before) r.waiting)
  -- The wait from any world: before that, what is agreed at the end is recovered, as far as it was not delivered at the beginning.
  pub waits : (n before done : ℕ) (r : NodeState) → item w.nodes n ≡ Some r → before < length r.waiting → DeliveredTo w done → turns_for s (length (agreed v.sent) - done) + rounds_for s before ≤ turns → TookPlaces s w v n (take (suc before) r.waiting)

-- Whatever events follow, as many entries more are agreed or wait as these events admit, no fewer and no more (`OnceInOrder` says which).
pub record GrowsAsAdmitted (s : Settings) (w : World) (events : List Event) : Type 0 where
  pub wanted : wanted_places (run s w events) ≡ wanted_places w + all_admitted s w events
  -- so at most as many places are agreed as are wanted at the beginning and one for each of these, as far as the ring has them
  pub agreed : length (agreed (run s w events).sent) ≤ most_agreed s w (all_admitted s w events)

-- The wait from any world by numbers that are known at the beginning, where at most so many entries more are admitted in these turns.
pub record BoundedAtStart (s : Settings) (w v : World) (turns more : ℕ) : Type 0 where
  -- At the end at most so many places are agreed: those that are agreed at the beginning, one for each entry that waits then or is admitted meanwhile, as far as the ring has them.
  pub agreed : length (agreed v.sent) ≤ most_agreed s w more
  -- The wait: before the rounds in which the entry takes its place, so many places are recovered, as far as they were not delivered at the beginning.
  pub waits : (n before done : ℕ) (r : NodeState) → item w.nodes n ≡ Some r → before < length r.waiting → DeliveredTo w done → turns_for s (most_agreed s w more - done) + rounds_for s before ≤ turns → TookPlaces s w v n (take (suc before) r.waiting)

-- A good turn is possible, in which frames arrive and places are delivered, no more.
pub record HasTurn (s : Settings) (w : World) : Type 0 where
  pub events : List Event
  pub hearing : All IsHearing events
  pub good : GoodHop w (run s w events)
