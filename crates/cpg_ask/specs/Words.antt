-- Four numbers of four bytes each.
use Rattle.std.specs.Prelude.{ℕ, List, ◌++◌, Option, Some}
use Rattle.byteorder.specs.Endian.{little_bytes}
use Rattle.cpg_wire.specs.Reading.{◌>>=◌}
use Rattle.cpg_ask.specs.declared.words.Words.{Words}
use Rattle.cpg_ask.specs.Numbers.{little_at, IsU32}

abbrev pub words_bytes : Words → List ℕ
words_bytes w = little_bytes 4 w.first ++ (little_bytes 4 w.second ++ (little_bytes 4 w.third ++ little_bytes 4 w.fourth))

unfoldable pub words_at : List ℕ → Option (Words × List ℕ)
words_at bytes = do
  first ← little_at 4 bytes
  second ← little_at 4 first.1
  third ← little_at 4 second.1
  fourth ← little_at 4 third.1
  Some (record { first = first.0; second = second.0; third = third.0; fourth = fourth.0 }, fourth.1)

pub record WordsFit (w : Words) : Type 0 where
  pub first : IsU32 w.first
  pub second : IsU32 w.second
  pub third : IsU32 w.third
  pub fourth : IsU32 w.fourth
