-- the hash of a name, by which tables find names
use Rattle.std.specs.Prelude.{ℕ, ◌*◌, ◌%◌, ◌^◌, List, [], ◌∷◌, bit_xor}

-- the state after a write, by its first byte
abbrev pub fed_first : ℕ → List ℕ → ℕ
fed_first state [] = state
fed_first state (byte ∷ rest) = (bit_xor state byte * 11400714819323198485) % 2 ^ 64
