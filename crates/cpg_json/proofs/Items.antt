-- items of lists
use Rattle.std.proofs.Common.{◌≡◌, ℕ, zero, suc, ◌<◌, List, [], ◌∷◌, length, get_or, refl, arith}

-- an item of a list is there, whatever would stand in for it past the end
pub item_there : {A : Type 0} (xs : List A) (i : ℕ) (other : A) → i < length xs → get_or xs i (get_or xs i other) ≡ get_or xs i other
item_there [] i other within = absurd (omega arith)
item_there (x ∷ xs) zero other within = refl
item_there (x ∷ xs) (suc i) other within = item_there xs i other (omega arith)
