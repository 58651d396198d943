-- One node of the ring: what it keeps.
use Rattle.std.specs.Prelude.{◌≡◌, ℕ, ◌≤◌, min, Bool, List, ◌∷◌, Option, Some, is_some, count_by}
use Rattle.std.specs.Ordering.{nat_cmp}
use Rattle.std.specs.FinMap.{FinMap, get}
use Rattle.cpg_entry.specs.declared.calls.Op.{Op}
use Rattle.cpg_entry.specs.declared.calls.Op.TheVariants as ops
pub use Rattle.cpg_entry.specs.declared.entries.Entry.{Entry}
pub use Rattle.cpg_entry.specs.declared.frames.Packet.{Packet}
pub use Rattle.cpg_entry.specs.declared.frames.Token.{Token}
pub use Rattle.cpg_entry.specs.declared.frames.Frame.{Frame}
pub use Rattle.cpg_cred.specs.declared.refusals.Refusal.{Refusal}
pub use Rattle.cpg_ring.specs.declared.settings.Settings.{Settings}
use Rattle.cpg_cred.specs.declared.nodes.TheConstants.{MOST_NODES}
use Rattle.cpg_entry.specs.declared.ranges.TheConstants.{MOST_PLACES, MOST_HOPS}

-- The ranges of a ring's settings (our own rule).
pub record IsSettings (s : Settings) : Type 0 where
  pub nodes : (1 ≤ s.nodes) × (s.nodes ≤ MOST_NODES)
  pub places : (1 ≤ s.places) × (s.places ≤ MOST_PLACES)
  pub hops : (1 ≤ s.hops) × (s.hops ≤ MOST_HOPS)

-- The entry at each place that a node holds, delivered places included.
abbrev pub HeldPlaces : Type 0
HeldPlaces = FinMap nat_cmp Entry

-- What a node keeps.
pub record NodeState : Type 0 where
  -- the last hop that it accepted, which is the hop of a token that came
  pub last_hop : Option ℕ
  -- the last token that it sent, whose hop is one more; before its first visit the last node has the ring's first token
  pub last_token : Option Token
  pub held : HeldPlaces
  -- how many places it delivered: places 1 to this one
  pub delivered : ℕ
  -- the entries that wait for a place, the oldest first
  pub waiting : List Entry
  -- the aru of the tokens that it forwarded at its last two accepted visits, the newest first
  pub arus : List ℕ

-- something is held at the place
abbrev pub Holds : HeldPlaces → ℕ → Type 0
Holds held place = (e : Entry) × (get held place ≡ Some e)

-- whether a place is held
abbrev pub is_held : HeldPlaces → ℕ → Bool
is_held held place = is_some (get held place)

-- Up to this place all nodes hold all places: the lesser of the last two aru values forwarded, 0 before there are two (Totem's safe rule).
abbrev pub safe_mark : List ℕ → ℕ
safe_mark (a ∷ b ∷ _) = min a b
safe_mark _ = 0

-- whether an entry is a call, and not the end of a connection
abbrev pub is_call : Op → Bool
is_call (ops.Act call) = Bool.true
is_call ops.Gone = Bool.false

-- how many calls are among the entries
abbrev pub calls : List Entry → ℕ
calls entries = count_by (λ e. is_call e.op) entries
