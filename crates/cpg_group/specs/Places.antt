-- items that stand at ascending places
use Rattle.std.specs.Prelude.{ℕ, Bool, false, nat_le, Option, Some, None}

-- whether an item is there, and stands at a place up to the last one
abbrev pub upto : {X : Type 0} → (X → ℕ) → ℕ → Option X → Bool
upto f last None = false
upto f last (Some x) = nat_le (f x) last
