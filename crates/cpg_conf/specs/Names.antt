-- names texts: which numbers user and group names stand for, by this project's own rule
use Rattle.std.specs.Prelude.{ℕ, ◌+◌, min, List, [], ◌∷◌, ◌++◌, codes, is_some, if◌then◌else◌, Option, Some, None, Result, Ok, Err}
use Rattle.std.specs.List.{fold}
use Rattle.std.specs.Map.{lookup}
use Rattle.std.specs.Option.{ok_or}
use Rattle.std.specs.Str.{bytes_eq}
use Rattle.cpg_cred.specs.declared.refusals.Refusal.{Refusal}
use Rattle.cpg_cred.specs.declared.refusals.Refusal.TheVariants.{BadLine, BadValue}
use Rattle.cpg_text.specs.Lines.{lines_of, trimmed, words_of, is_ignored}
use Rattle.cpg_text.specs.Numbers.{number_in}

-- what names stand for: each name of a user and of a group once, beside its number
pub record Known : Type 0 where
  pub users : List (List ℕ × ℕ)
  pub groups : List (List ℕ × ℕ)

-- no names
abbrev pub no_names : Known
no_names = record { users = []; groups = [] }

-- the number of a name, if the table has it
abbrev pub number_of : List (List ℕ × ℕ) → List ℕ → Option ℕ
number_of table name = lookup (bytes_eq name) table

-- the table with a name more, at the end, unless it has that name: the first line for a name counts
abbrev pub with_name : List (List ℕ × ℕ) → List ℕ → ℕ → List (List ℕ × ℕ)
with_name table name number = if is_some (number_of table name) then table else table ++ (name, number) ∷ []

-- what a line says: nothing, or the number of a user's or a group's name
pub data Naming : Type 0 where
  Nothing : Naming
  User : List ℕ → ℕ → Naming
  Group : List ℕ → ℕ → Naming

-- the names, with what a line says
abbrev pub with_naming : Known → Naming → Known
with_naming names Nothing = names
with_naming names (User name number) = record names { users = with_name names.users name number }
with_naming names (Group name number) = record names { groups = with_name names.groups name number }

-- what is made of a number that was read, or its fault
abbrev pub made : {A : Type 0} → (ℕ → A) → Result ℕ Refusal → Result A Refusal
made make (Ok number) = Ok (make number)
made make (Err fault) = Err fault

-- a number of 32 bits; any other word is a bad value of that line
abbrev pub value_on : ℕ → List ℕ → Result ℕ Refusal
value_on line word = ok_or (number_in 0 4294967295 word) (BadValue line)

-- the words, where they are three
abbrev pub three : List (List ℕ) → Option (List ℕ × List ℕ × List ℕ)
three (first ∷ second ∷ third ∷ []) = Some (first, second, third)
three words = None

-- what three words say, `user NAME N` or `group NAME N`; any other line is bad
abbrev pub naming_in : ℕ → Option (List ℕ × List ℕ × List ℕ) → Result Naming Refusal
naming_in line None = Err (BadLine line)
naming_in line (Some (kind, name, value)) =
    if bytes_eq kind (codes "user") then made (User name) (value_on line value)
    else if bytes_eq kind (codes "group") then made (Group name) (value_on line value)
    else Err (BadLine line)

-- what a trimmed line of that number says
abbrev pub naming_of : ℕ → List ℕ → Result Naming Refusal
naming_of line text = if is_ignored text then Ok Nothing else naming_in line (three (words_of text))

-- the number of the line after that one; past the 4,294,967,295th it stays
abbrev pub next_number : ℕ → ℕ
next_number line = min (line + 1) 4294967295

-- what is said first, and then the rest, unless there is a fault: the first one counts
abbrev pub naming_then : Result Naming Refusal → Result (List Naming) Refusal → Result (List Naming) Refusal
naming_then (Err fault) later = Err fault
naming_then (Ok naming) (Ok later) = Ok (naming ∷ later)
naming_then (Ok naming) (Err fault) = Err fault

-- what lines say, the first of which has that number
abbrev pub namings_from : ℕ → List (List ℕ) → Result (List Naming) Refusal
namings_from line [] = Ok []
namings_from line (text ∷ later) = naming_then (naming_of line (trimmed text)) (namings_from (next_number line) later)

-- the names, with what was said, unless there is a fault
abbrev pub with_namings : Known → Result (List Naming) Refusal → Result Known Refusal
with_namings names (Ok namings) = Ok (fold with_naming names namings)
with_namings names (Err fault) = Err fault

-- the names of a text, or the fault of its first faulty line
abbrev pub known_of : List ℕ → Result Known Refusal
known_of text = with_namings no_names (namings_from 1 (lines_of text))
