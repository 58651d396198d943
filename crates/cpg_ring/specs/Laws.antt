-- What the definitions of a visit amount to, in the words of the rules.
use Rattle.std.specs.FinMap.{get}
use Rattle.std.specs.Prelude.{Some, ◌≡◌, ◌⊎◌, ◌↔◌, ℕ, ◌+◌, ◌≤◌, min, List, take}
use Rattle.std.specs.List.{Contains, All}
use Rattle.cpg_entry.specs.declared.ranges.TheConstants.{MOST_REQUESTS}
use Rattle.cpg_ring.specs.declared.settings.TheConstants.{WINDOW}
use Rattle.cpg_entry.specs.Ranges.{Ascends, IsToken}
use Rattle.cpg_ring.specs.States.{Entry, Packet, Token, Settings, HeldPlaces, Holds, NodeState}
use Rattle.cpg_ring.specs.Visits.{VisitStep, reach}

-- places 1 to a are all held
abbrev pub AllHeld : HeldPlaces → ℕ → Type 0
AllHeld held a = (place : ℕ) → 1 ≤ place → place ≤ a → Holds held place

-- no place above that number is held
abbrev pub NoneAbove : HeldPlaces → ℕ → Type 0
NoneAbove held high = (place : ℕ) → Holds held place → place ≤ high

-- a is the greatest number with places 1 to a all held
pub record IsGreatestHeld (held : HeldPlaces) (a : ℕ) : Type 0 where
  pub all : AllHeld held a
  pub greatest : (b : ℕ) → AllHeld held b → b ≤ a

-- The places that a visit has to ask for: the requests not served, and the places not held in the window.
abbrev pub LacksPlace : NodeState → Token → VisitStep → ℕ → Type 0
LacksPlace r t v place = (Contains t.rtr place × ¬ Holds r.held place) ⊎ ((1 ≤ place) × (place ≤ min v.token.seq (r.delivered + WINDOW)) × ¬ Holds v.held place)

-- the list is the first n, ascending, of all the places that are missing
pub record IsLeastMissing (n : ℕ) (r : NodeState) (t : Token) (v : VisitStep) (list : List ℕ) : Type 0 where
  pub whole : List ℕ
  pub ascends : Ascends 0 v.token.seq whole
  pub has : (place : ℕ) → Contains whole place ↔ LacksPlace r t v place
  pub first : list ≡ take n whole

-- What an accepted visit of a token in range does.
pub record IsVisit (s : Settings) (r : NodeState) (t : Token) (v : VisitStep) : Type 0 where
  -- step 3 speaks of the greatest number with all places held
  pub reach : IsGreatestHeld v.held (reach v.held v.token.seq)
  -- step 4 asks for the 32 least missing places, ascending
  pub requests : IsLeastMissing MOST_REQUESTS r t v v.token.rtr
  -- the token that goes on is in range
  pub token : IsToken v.token
  -- within the ring's own places and hops
  pub seq : v.token.seq ≤ s.places
  pub hop : v.token.hop ≤ s.hops
  -- and so are the packets
  pub packets : All (λ p. (1 ≤ p.place) × (p.place ≤ s.places)) v.packets

-- what was held at a place is held there still
abbrev pub StaysHeld : HeldPlaces → HeldPlaces → Type 0
StaysHeld old new = (place : ℕ) (e : Entry) → get old place ≡ Some e → get new place ≡ Some e

-- the packet carries what is held at its place, or an entry that waits
abbrev pub IsOwnPacket : Settings → NodeState → Packet → Type 0
IsOwnPacket s r p = (p.ring ≡ s.ring) × ((get r.held p.place ≡ Some p.entry) ⊎ Contains r.waiting p.entry)
