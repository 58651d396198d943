-- places among words and bytes
use Rattle.std.proofs.Common.{◌≡◌, ℕ, zero, suc, ◌-◌, ◌<◌, List, ap, arith}
use Rattle.cpg_hint.specs.Places.{from_word, from_blank, from_word_at}

-- a word that is not the first stands among those behind the first
pub from_word_next : (index : ℕ) (line : List ℕ) → 0 < index → from_word_at index line ≡ from_word_at (index - 1) (from_blank (from_word line))
from_word_next zero line h = absurd (omega arith)
from_word_next (suc index) line h = let e : index ≡ suc index - 1 = omega arith in ap (λ i. from_word_at i (from_blank (from_word line))) e
