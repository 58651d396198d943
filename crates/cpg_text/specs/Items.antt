-- steps of the reading functions, which no contract of a public function cites
use Rattle.std.specs.Prelude.{ℕ, List, ◌++◌, length, Option, Result, Ok, Err}
use Rattle.cpg_text.specs.Commands.{commands_from}
use Rattle.cpg_text.specs.Reading.{items_after}

-- items, and then those of the lines after them
abbrev pub items_before : {T : Type 0} → List T → Result (List T) ℕ → Result (List T) ℕ
items_before items (Ok later) = Ok (items ++ later)
items_before items (Err line) = Err line

-- the items that were read, and then those of the lines that are left, the first of which has that number
abbrev pub items_with : {T : Type 0} → (ℕ → List ℕ → Option T) → List T → ℕ → List (List ℕ) → Result (List T) ℕ
items_with meaning items number lines = items_before items (items_after meaning (length items) (commands_from number lines))
