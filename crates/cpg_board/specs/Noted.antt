-- How a seat keeps what it knows: a note for each cell.
use Rattle.std.specs.Prelude.{ℕ, ◌≡◌, List, [], ◌∷◌, Option, Some, None}
use Rattle.once_cell.specs.declared.race.note.Note.{Note}

-- a cell with what is known to stand in it, before the others
abbrev pub with_known : {X : Type 0} → ℕ → Option X → List (ℕ × X) → List (ℕ × X)
with_known cell None rest = rest
with_known cell (Some x) rest = (cell, x) ∷ rest

-- the cells that these notes know, each with what stands in it
abbrev pub known_of : {X : Type 0} → List (Note X) → List (ℕ × X)
known_of [] = []
known_of (note ∷ notes) = with_known note.cell note.known (known_of notes)

-- the note knows what stands in its cell
abbrev pub Knows : {X : Type 0} → Note X → Type 0
Knows {X} note = (x : X) × (note.known ≡ Some x)

-- each of these notes knows what stands in its cell
abbrev pub AllKnow : {X : Type 0} → List (Note X) → Type 0
AllKnow [] = Unit {0}
AllKnow (note ∷ notes) = Knows note × AllKnow notes
