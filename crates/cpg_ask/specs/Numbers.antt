-- Numbers on the stream: the lowest byte first, as both ends stand on one machine that keeps them so.
use Rattle.std.specs.Prelude.{ℕ, ◌≤◌, List, length, drop, Option, Some, None, nat_lt, if◌then◌else◌}
use Rattle.byteorder.specs.Endian.{little_number}

-- a number of that many bytes, and what follows it
abbrev pub little_at : ℕ → List ℕ → Option (ℕ × List ℕ)
little_at count bytes = if nat_lt (length bytes) count then None else Some (little_number count bytes, drop count bytes)

-- a number of two bytes
abbrev pub IsU16 : ℕ → Type 0
IsU16 number = number ≤ 65535

-- a number of four bytes
abbrev pub IsU32 : ℕ → Type 0
IsU32 number = number ≤ 4294967295
