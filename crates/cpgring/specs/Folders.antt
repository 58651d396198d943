-- which paths of files stand for the paths that are given
use Rattle.std.specs.Prelude.{◌≡◌, ◌⊎◌, ℕ, List, [], ◌∷◌, ◌++◌, map}

-- the path of something in a directory: the directory's, and more behind it
abbrev pub IsBehind : List ℕ → List ℕ → Type 0
IsBehind directory path = (name : List ℕ) × (path ≡ directory ++ name)

-- paths of what is in a directory
abbrev pub AreBehind : List ℕ → List (List ℕ) → Type 0
AreBehind directory paths = (names : List (List ℕ)) × (paths ≡ map (λ name. directory ++ name) names)

-- a given path stands for itself, or for paths of what is in it
abbrev pub StandsFor : List ℕ → List (List ℕ) → Type 0
StandsFor given paths = (paths ≡ given ∷ []) ⊎ AreBehind given paths

-- the paths are those for which the given ones stand, one after the other
abbrev pub AreFrom : List (List ℕ) → List (List ℕ) → Type 0
AreFrom [] paths = paths ≡ []
AreFrom (given ∷ later) paths = (here : List (List ℕ)) × ((rest : List (List ℕ)) × (paths ≡ here ++ rest) × StandsFor given here × AreFrom later rest)
