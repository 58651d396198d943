-- No dead end: what was sent can still be delivered everywhere, and what waits can still take its place.
use Rattle.std.specs.Prelude.{◌≡◌, ℕ, min, ◌+◌, ◌-◌, ◌*◌, ◌<◌, ◌≤◌, List, [], Some, length}
use Rattle.std.specs.List.{All, Contains, sum_by}
use Rattle.cpg_entry.specs.declared.frames.Frame.TheVariants as frame
use Rattle.cpg_ring.specs.States.{Token, Settings, NodeState}
use Rattle.cpg_ring.specs.Visits.{up_to}
use Rattle.cpg_ring.specs.Worlds.{World, Event, Enqueue, EnqueueEnd, Arrive, Timer, Deliver, item, run, agreed}
use Rattle.cpg_ring.specs.Claims.{waiting_at, admitted}

-- every node delivered all that is agreed
abbrev pub AllDelivered : World → Type 0
AllDelivered w = (n : ℕ) (r : NodeState) → item w.nodes n ≡ Some r → r.delivered ≡ length (agreed w.sent)

-- a frame arrives, or a place is delivered
abbrev pub IsHearing : Event → Type 0
IsHearing (Enqueue e) = ⊥
IsHearing (EnqueueEnd e) = ⊥
IsHearing (Arrive n k) = Unit {0}
IsHearing (Timer n) = ⊥
IsHearing (Deliver n) = Unit {0}

-- Catches up: frames sent already can still arrive so that every node delivers all that is agreed.
pub record CatchesUp (s : Settings) (w : World) : Type 0 where
  pub events : List Event
  -- frames arrive and places are delivered, no more
  pub hearing : All IsHearing events
  pub delivered : AllDelivered (run s w events)
  -- meanwhile nothing is sent, and what waits waits on
  pub sent : (run s w events).sent ≡ w.sent
  pub waiting : (n : ℕ) → waiting_at (item (run s w events).nodes n) ≡ waiting_at (item w.nodes n)

-- the first so many frames are lost for good: none of them arrives; and nothing is enqueued
abbrev pub IsAfterLoss : ℕ → Event → Type 0
IsAfterLoss lost (Enqueue e) = ⊥
IsAfterLoss lost (EnqueueEnd e) = ⊥
IsAfterLoss lost (Arrive n k) = lost < k
IsAfterLoss lost (Timer n) = Unit {0}
IsAfterLoss lost (Deliver n) = Unit {0}

-- how many entries wait, at all nodes
abbrev pub all_waiting : World → ℕ
all_waiting w = sum_by (λ r. length r.waiting) w.nodes

-- nothing waits at any node
abbrev pub NoneWaits : World → Type 0
NoneWaits w = (n : ℕ) (r : NodeState) → item w.nodes n ≡ Some r → r.waiting ≡ []

-- how many places are wanted: those agreed, and one for each entry that waits
abbrev pub wanted_places : World → ℕ
wanted_places w = length (agreed w.sent) + all_waiting w

-- how many calls and ends these events admit, at all nodes
abbrev pub all_admitted : Settings → World → List Event → ℕ
all_admitted s w events = sum_by (λ n. length (admitted s w n events)) (up_to s.nodes)

-- The most places that can be agreed once so many entries more are admitted: those wanted now and one for each, as far as the ring has them.
abbrev pub most_agreed : Settings → World → ℕ → ℕ
most_agreed s w more = min s.places (wanted_places w + more)

-- every node delivered so many places, or more
abbrev pub DeliveredTo : World → ℕ → Type 0
DeliveredTo w done = (n : ℕ) (r : NodeState) → item w.nodes n ≡ Some r → done ≤ r.delivered

-- three rounds for each place wanted that not every node delivered, as far as the ring has such places
abbrev pub hops_for : Settings → World → ℕ → ℕ
hops_for s w done = (min s.places (wanted_places w) - done) * (3 * s.nodes)

-- each token that was sent leaves the ring so many hops
abbrev pub HasHops : Settings → World → ℕ → Type 0
HasHops s w hops = (t : Token) → Contains w.sent (frame.Token t) → t.hop + hops ≤ s.hops

-- Recovers: though every frame sent so far is lost for good, all that is agreed can be delivered everywhere, and all that waits can take its place.
pub record Recovers (s : Settings) (w : World) : Type 0 where
  pub events : List Event
  -- nothing is enqueued, and only frames arrive that are sent from now on
  pub after_loss : All (IsAfterLoss (length w.sent)) events
  pub delivered : AllDelivered (run s w events)
  -- as many places are agreed as are wanted, as far as the ring has them
  pub placed : length (agreed (run s w events).sent) ≡ min s.places (wanted_places w)
  -- so nothing waits, where it has them all
  pub waiting : wanted_places w ≤ s.places → NoneWaits (run s w events)
