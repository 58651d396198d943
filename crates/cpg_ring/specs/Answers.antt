-- What the calls of a ring answer.
use Rattle.std.specs.Prelude.{◌≡◌, ℕ, ◌≤◌, Option, Some, None, Result, Ok, Err}
use Rattle.std.specs.List.{All}
use Rattle.cpg_cred.specs.declared.refusals.Refusal.TheVariants.{Memory, Range}
use Rattle.cpg_cred.specs.declared.refusals.Refused.{Refused}
use Rattle.cpg_entry.specs.declared.ranges.TheConstants.{MOST_PLACES}
use Rattle.cpg_ring.specs.declared.visit.Visit.{Visit}
use Rattle.cpg_ring.specs.States.{Refusal, Settings}
use Rattle.cpg_entry.specs.Ranges.{IsToken}
use Rattle.cpg_ring.specs.Rings.{RingNode, IsRingNode, new_ring_node}

-- A new ring, where its settings allow one; Range exactly where they don't.
abbrev pub IsMade : Settings → ℕ → Result RingNode Refusal → Type 0
IsMade s n (Ok ring) = IsRingNode s n × (ring ≡ new_ring_node s n)
IsMade s n (Err Range) = ¬ IsRingNode s n
IsMade s n (Err Memory) = IsRingNode s n
IsMade s n (Err _) = ⊥

-- An answer with the first refusal that fits; where none fits, a value, or Memory in its place.
abbrev pub IsAnswer : {X : Type 0} → Option Refusal → (X → Type 0) → Result X Refusal → Type 0
IsAnswer refusal P (Ok x) = (refusal ≡ None) × P x
IsAnswer refusal P (Err Memory) = refusal ≡ None
IsAnswer refusal P (Err why) = refusal ≡ Some why

-- the refusal alone
abbrev pub answer_of : {X : Type 0} → Result Unit (Refused X) → Result Unit Refusal
answer_of (Ok x) = Ok x
answer_of (Err refused) = Err refused.refusal

-- What a visit sends can be spelled in frames, and lies within the ring's places and hops.
pub record IsInRange (s : Settings) (v : Visit) : Type 0 where
  pub token : IsToken v.token
  pub seq : v.token.seq ≤ s.places
  pub hop : v.token.hop ≤ s.hops
  pub packets : All (λ p. (1 ≤ p.place) × (p.place ≤ s.places)) v.packets
  -- which are places that a frame may carry
  pub places : s.places ≤ MOST_PLACES
