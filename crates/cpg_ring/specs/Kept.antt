-- How a node keeps what it holds: the delivered entries in order, and above them a slot for each place of the window.
use Rattle.std.specs.Prelude.{◌≡◌, ℕ, zero, suc, ◌+◌, ◌%◌, ◌≤◌, List, [], ◌∷◌, length, get_or, Option, Some, None, IfSome, if◌then◌else◌, nat_lt, slice_get}
use Rattle.std.specs.FinMap as map
use Rattle.std.specs.FinMap.{insert, empty}
use Rattle.std.specs.Coded.{Coded, coded_ℕ}
use Rattle.cpg_entry.specs.contracts.entries.Entry as entry
use Rattle.cpg_entry.specs.declared.ranges.TheConstants.{MOST_PLACES}
use Rattle.cpg_ring.specs.declared.settings.TheConstants.{WINDOW}
use Rattle.cpg_ring.specs.States.{Entry, Token, Settings, HeldPlaces, Holds}
use Rattle.cpg_entry.specs.Ranges.{IsToken}
use Rattle.cpg_ring.specs.Laws.{AllHeld}
use Rattle.cpg_ring.specs.Rings.{IsRingNode}

-- What is held, how many places are delivered, and up to which place there is room to deliver.
pub record HeldValue : Type 0 where
  pub places : HeldPlaces
  pub delivered : ℕ
  pub room : ℕ

-- how a proof stores what is held
abbrev pub held_code : Coded HeldPlaces
held_code = map.code coded_ℕ (entry.the_row).coded

-- what is in the slot of a place
abbrev pub in_slot : List (Option Entry) → ℕ → Option Entry
in_slot slots place = get_or slots (place % WINDOW) None

-- what is kept for a place: a delivered one stands at its number, and one of the next 64 is in its slot
abbrev pub kept_at : List Entry → List (Option Entry) → ℕ → Option Entry
kept_at done slots zero = None
kept_at done slots (suc i) = if nat_lt i (length done) then slice_get done i else if nat_lt i (length done + WINDOW) then in_slot slots (suc i) else None

-- the entry is held at the place, too, if there is one
abbrev pub hold_some : HeldPlaces → ℕ → Option Entry → HeldPlaces
hold_some held place None = held
hold_some held place (Some e) = insert held place e

-- what f has at the places from 1 to n
unfoldable pub held_by : (ℕ → Option Entry) → ℕ → HeldPlaces
held_by f zero = empty
held_by f (suc n) = hold_some (held_by f n) (suc n) (f (suc n))

-- all that is kept
unfoldable pub held_map : List Entry → List (Option Entry) → HeldPlaces
held_map done slots = held_by (kept_at done slots) (length done + WINDOW)

-- What is true of what is kept.
pub record IsKept (done : List Entry) (most : ℕ) (slots : List (Option Entry)) : Type 0 where
  pub count : length slots ≡ WINDOW
  pub counted : length done ≤ MOST_PLACES
  -- no place is held that no ring has, and there is room to deliver each
  pub within : (place : ℕ) (e : Entry) → kept_at done slots place ≡ Some e → (place ≤ MOST_PLACES) × (place ≤ most)

-- one aru, and the one before it, the newest first
abbrev pub newest_two : Option ℕ → Option ℕ → List ℕ
newest_two (Some a) (Some b) = a ∷ b ∷ []
newest_two (Some a) None = a ∷ []
newest_two None b = []

-- What is true of every ring's fields.
pub record IsRing (s : Settings) (n : ℕ) (held : HeldValue) (last_token : Option Token) : Type 0 where
  pub ring_node : IsRingNode s n
  -- no place is held that the ring does not have
  pub within : (place : ℕ) → Holds held.places place → place ≤ s.places
  -- the delivered places are held
  pub delivered : AllHeld held.places held.delivered
  -- the last token sent can be spelled in a frame
  pub spelled : IfSome last_token IsToken
