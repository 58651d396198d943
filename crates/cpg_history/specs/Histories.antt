-- One history of all events, which exists in proofs alone, and what threads know of it.
use Rattle.std.specs.Prelude.{◌≡◌, Bool, ℕ, suc, ◌%◌, ◌^◌, true, List, [], ◌∷◌, ◌++◌, length}
use mathlib.Core.List.{IsPrefix}
use Rattle.atomic_table.specs.Table.{Me, Step}
use Rattle.atomic_table.specs.Seated.{TableId}
use Rattle.cpg_world_laws.specs.declared.events.WorldEvent.{WorldEvent}
use Rattle.cpg_world_laws.specs.Worlds.{WorldValue, node_in, new_world}
use Rattle.cpg_history.specs.declared.histories.Beginning.{Beginning}
use Rattle.cpg_board.specs.declared.words.View.{View}
use Rattle.cpg_board.specs.Words.{Owns, Rests, view}

-- the name of no table
abbrev pub no_table : TableId
no_table = record { words = 0; slots = 0; views_name = 0; atom = 0; block = 0; offset = 0; slot_names = [] }

-- the world that no history begins with: it has no nodes
abbrev pub no_world : WorldValue
no_world = record { settings = record { ring = 0; nodes = 0; places = 0; hops = 0 }; list = record { users = []; groups = [] }; nodes = []; sent = [] }

-- the world that a history begins with
abbrev pub first_world : Beginning → WorldValue
first_world b = new_world b.settings b.list

-- The event came after `log`, which begins with all that the view had seen, and in which nothing had happened at the node since. Where events
-- are counted, its stamp is how many came before it.
pub record Came (counted : Bool) (v : View) (e : WorldEvent) (stamp : ℕ) (seen : List WorldEvent) : Type 0 where
  pub log : List WorldEvent
  pub stamped : counted ≡ true → stamp ≡ length log % 2 ^ 64
  pub before : IsPrefix v.seen log
  pub also : IsPrefix v.also log
  pub rests : Rests (node_in e) v.seen log
  pub after : seen ≡ log ++ e ∷ []

-- the view, with a longer beginning seen
abbrev pub later : View → List WorldEvent → View
later v seen = view v.from v.to seen [] 0

-- what a step that adds the event tells
abbrev pub Adds : Bool → WorldEvent → Step ℕ → Me ℕ View → ℕ → Me ℕ View → Type 0
Adds counted e s v found w = Came counted v.0 e found w.0.seen × (w.0 ≡ later v.0 w.0.seen) × (w.1 ≡ v.1)

-- the view has seen all the history, in which nothing had happened at its nodes since
pub record Sees (v w : View) : Type 0 where
  pub before : IsPrefix v.seen w.seen
  pub also : IsPrefix v.also w.seen
  pub rests : (n : ℕ) → Owns v n → Rests n v.seen w.seen
  pub same : w ≡ later v w.seen

-- what a step that sees the history tells
abbrev pub Looks : Step ℕ → Me ℕ View → ℕ → Me ℕ View → Type 0
Looks s v found w = Sees v.0 w.0 × (w.1 ≡ v.1)

-- the view has seen what it was told, in which nothing had happened at its nodes since
pub record Catches (v w : View) : Type 0 where
  pub rests : (n : ℕ) → Owns v n → Rests n v.seen v.also
  pub same : w ≡ later v v.also

-- what a step tells by which a view sees just what it was told
abbrev pub TellsCatch : Step ℕ → Me ℕ View → ℕ → Me ℕ View → Type 0
TellsCatch s v found w = Catches v.0 w.0 × (w.1 ≡ v.1)

-- the view of the first node alone, and of the others
abbrev pub first_node : View → View
first_node v = view v.from (suc v.from) v.seen [] 0

abbrev pub other_nodes : View → View
other_nodes v = view (suc v.from) v.to v.seen v.also v.number

-- the view of no node that has seen as much, with a number
abbrev pub front_of : ℕ → View → View
front_of number v = view 0 0 v.seen [] number

-- the view, with what another has seen
abbrev pub told : View → View → View
told v w = view v.from v.to v.seen w.seen w.number

-- the view of no node that has seen nothing
abbrev pub nobody : View
nobody = view 0 0 [] [] 0

-- A front: a beginning of the history, with a number.
pub record FrontValue : Type 0 where
  pub seen : List WorldEvent
  pub number : ℕ

-- its view
abbrev pub front : FrontValue → View
front f = view 0 0 f.seen [] f.number

-- the front that a badge's one view is
abbrev pub seen_by : List View → FrontValue
seen_by [] = record { seen = []; number = 0 }
seen_by (v ∷ vs) = record { seen = v.seen; number = v.number }
