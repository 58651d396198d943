-- the numbers that an accept list has, and how it grows
use Rattle.std.specs.Prelude.{ℕ, Bool, ◌==◌, List, [], ◌∷◌, ◌++◌, if◌then◌else◌}
use Rattle.std.specs.List.{fold, list_any}

-- an accept list, as contracts see it: its users and its groups, each in the order of their addition
pub record Listed : Type 0 where
  pub users : List ℕ
  pub groups : List ℕ

-- the number is among them
abbrev pub is_among : List ℕ → ℕ → Bool
is_among numbers number = list_any (λ listed. number == listed) numbers

-- the numbers with one more at the end, if it was absent
abbrev pub with_number : List ℕ → ℕ → List ℕ
with_number numbers number = if is_among numbers number then numbers else numbers ++ number ∷ []

-- the numbers with more at the end, one after the other, each if it was absent
abbrev pub with_numbers : List ℕ → List ℕ → List ℕ
with_numbers numbers more = fold with_number numbers more

-- the list with one user more, at the end, if it was absent
abbrev pub with_user : Listed → ℕ → Listed
with_user list uid = record list { users = with_number list.users uid }

-- the list with one group more, at the end, if it was absent
abbrev pub with_group : Listed → ℕ → Listed
with_group list gid = record list { groups = with_number list.groups gid }

-- the list with more users and more groups, one after the other, each at the end if it was absent
abbrev pub with_listed : Listed → Listed → Listed
with_listed list more = record { users = with_numbers list.users more.users; groups = with_numbers list.groups more.groups }
