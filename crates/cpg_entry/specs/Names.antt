-- which bytes may name a group, by this project's own rule
use Rattle.std.specs.Prelude.{ℕ, ◌≤◌, ◌&&◌, Bool, nat_le, List, length, All}
use Rattle.std.specs.List.{list_all}
use Rattle.cpg_entry.specs.declared.names.TheConstants.{MOST_NAME_BYTES}

-- 1 to 128 bytes, each a printing ASCII character
abbrev pub IsName : List ℕ → Type 0
IsName bytes = (1 ≤ length bytes) × (length bytes ≤ MOST_NAME_BYTES) × All (λ byte. (0x21 ≤ byte) × (byte ≤ 0x7e)) bytes

-- a printing ASCII character
abbrev pub is_name_byte : ℕ → Bool
is_name_byte byte = nat_le 0x21 byte && nat_le byte 0x7e

-- the same rule as a test
abbrev pub is_name : List ℕ → Bool
is_name bytes = nat_le 1 (length bytes) && nat_le (length bytes) MOST_NAME_BYTES && list_all is_name_byte bytes
