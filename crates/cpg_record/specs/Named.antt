-- what is kept for names
use Rattle.std.specs.Prelude.{ℕ, List, map, Option, Some, None}
use Rattle.std.specs.Map.{lookup}
use Rattle.std.specs.Str.{bytes_eq}
use Rattle.std.specs.declared.vec.Vec.{Vec}

-- names with what is kept for them
abbrev pub Named : Type 0 → Type 0
Named X = List (List ℕ × X)

-- the names that a map's keys spell, beside what it keeps for them
abbrev pub named : {X Z : Type 0} → List (Vec ℕ Z × X) → Named X
named entries = map (λ entry. (entry.0.items, entry.1)) entries

-- the names alone
abbrev pub names_of : {X : Type 0} → Named X → List (List ℕ)
names_of kept = map (λ pair. pair.0) kept

-- what is found, else the other
abbrev pub found_or : {X : Type 0} → X → Option X → X
found_or other None = other
found_or other (Some found) = found

-- what is kept first for a name, else the other
abbrev pub kept_or : {X : Type 0} → X → Named X → List ℕ → X
kept_or other kept name = found_or other (lookup (bytes_eq name) kept)
