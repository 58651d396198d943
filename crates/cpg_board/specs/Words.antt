-- One history of all events at the nodes of a board, which exists in proofs alone, and what threads know of it.
use Rattle.std.specs.Prelude.{◌≡◌, ◌≢◌, Bool, ℕ, ◌<◌, ◌≤◌, ◌==◌, ◌%◌, ◌^◌, true, false, List, [], ◌∷◌, ◌++◌, length}
use Rattle.std.specs.List.{AllByRecursion}
use mathlib.Core.Option.{some}
use mathlib.Core.List.{IsPrefix}
use lib.ListN.{get_elem?}
use Rattle.atomic_table.specs.Table.{Me}
use Rattle.atomic_table.specs.Seated.{TableId}
use Rattle.cpg_world_laws.specs.declared.events.WorldEvent.{WorldEvent}
use Rattle.cpg_world_laws.specs.Worlds.{node_in}
use Rattle.cpg_board.specs.declared.words.View.{View}

-- A board: the names of its cells, and the table of the words of its history.
pub record BoardValue : Type 0 where
  pub cells : List ℕ
  pub table : TableId

-- a view of the nodes from one number up to another, that has seen these events
abbrev pub view : ℕ → ℕ → List WorldEvent → List WorldEvent → ℕ → View
view from to seen also number = record { from = from; to = to; seen = seen; also = also; number = number }

-- only who has this view may add events of the node
abbrev pub Owns : View → ℕ → Type 0
Owns v n = (v.from ≤ n) × (n < v.to)

-- nothing happened at the node between the two: the longer list is the shorter one with events of other nodes behind it
abbrev pub Rests : ℕ → List WorldEvent → List WorldEvent → Type 0
Rests n xs ys = (more : List WorldEvent) × (xs ++ more ≡ ys) × AllByRecursion (λ e. node_in e ≢ n) more

-- A view fits a history where node n is owned by the view of number `seat n`: both lists that it has seen begin the history; and nothing
-- has happened since at the nodes that it owns.
pub record FitsHistory (log : List WorldEvent) (seat : ℕ → ℕ) (by : ℕ) (v : View) : Type 0 where
  pub seen : IsPrefix v.seen log
  pub also : IsPrefix v.also log
  pub own : (n : ℕ) → Owns v n → (seat n ≡ by) × Rests n v.seen log

-- The words that threads share: one counts, in the middle, and no other is ever written, so that who only reads the first doesn't
-- wait for those who count.
abbrev pub spread : ℕ → List ℕ
spread count = 0 ∷ 0 ∷ 0 ∷ 0 ∷ 0 ∷ 0 ∷ 0 ∷ 0 ∷ count ∷ 0 ∷ 0 ∷ 0 ∷ 0 ∷ 0 ∷ 0 ∷ 0 ∷ 0 ∷ []

-- Where so many events are counted, a word tells how many; else no word is ever written, and there is one more.
abbrev pub words_of : Bool → ℕ → List ℕ
words_of true n = spread (n % 2 ^ 64)
words_of false n = 0 ∷ spread 0

-- how many words these are
abbrev pub many_words : Bool → ℕ
many_words true = 17
many_words false = 18

-- whether the events of the table's history are counted
abbrev pub is_counted : TableId → Bool
is_counted table = table.words == 17

-- There is one history; where its events are counted, the words that threads share tell its length; and each view fits it.
pub record Kept (counted : Bool) (words : List ℕ) (views : List View) : Type 0 where
  pub log : List WorldEvent
  pub seat : ℕ → ℕ
  pub count : words ≡ words_of counted (length log)
  pub each : (by : ℕ) (v : View) → get_elem? views by ≡ some v → FitsHistory log seat by v

-- the view of all nodes that has seen nothing
abbrev pub all_nodes : View
all_nodes = view 1 (2 ^ 64) [] [] 0

abbrev pub first_seat : Me ℕ View
first_seat = (all_nodes, [])
