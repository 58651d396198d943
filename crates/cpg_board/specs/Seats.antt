-- What seats know of a board, which is seen as the list of its cells' names.
use Rattle.std.specs.Prelude.{ℕ, ◌≡◌, ◌<◌, ◌≤◌, List, length, map, take}
use Rattle.std.specs.declared.cmp.Ordering.{Ordering}
use Rattle.std.specs.declared.cmp.Ordering.TheVariants.{Less, Equal, Greater}
use Rattle.cpg_record.specs.declared.records.Record.{Record}
use Rattle.cpg_record.specs.Places.{Begins}

-- the cells that a seat knows, each with the record that stands in it
abbrev pub SeatValue : Type 0
SeatValue = List (ℕ × Record)

abbrev pub cells_of : SeatValue → List ℕ
cells_of seat = map (λ known. known.0) seat

abbrev pub records_of : SeatValue → List Record
records_of seat = map (λ known. known.1) seat

-- the seat's cells are the first ones of the board
abbrev pub IsSeatOf : List ℕ → SeatValue → Type 0
IsSeatOf board seat = take (length seat) board ≡ cells_of seat

-- of two lists the one that is no longer begins the other, by the ordering of their lengths
abbrev pub Meets : {X : Type 0} → List X → List X → Ordering → Type 0
Meets xs ys Less = Begins xs ys × (length xs < length ys)
Meets xs ys Equal = xs ≡ ys
Meets xs ys Greater = Begins ys xs × (length ys < length xs)

-- zs is the longer of the two, xs where neither is
abbrev pub IsLonger : {X : Type 0} → List X → List X → List X → Type 0
IsLonger xs ys zs = (length xs < length ys → zs ≡ ys) × (length ys ≤ length xs → zs ≡ xs)
