-- A number in the bytes that it takes.
use Rattle.std.proofs.Common.{◌≡◌, ℕ, List, take, arith}
use Rattle.byteorder.specs.Endian.{little_number}
use Rattle.byteorder.specs.Numbers.{little_from-take}

pub little_taken : (n : ℕ) (bytes : List ℕ) → little_number n (take n bytes) ≡ little_number n bytes
little_taken n bytes = little_from-take 0 n n bytes (omega arith)
