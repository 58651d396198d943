-- where the words of a line stand among its bytes
use Rattle.std.specs.Prelude.{ℕ, zero, suc, ◌+◌, ◌-◌, List, [], ◌∷◌, length, not, if◌then◌else◌, Option, Some, None}
use Rattle.std.specs.List.{position}
use Rattle.cpg_text.specs.Lines.{is_blank, is_edge, trimmed}

-- the line from its first byte that is not blank
abbrev pub from_word : List ℕ → List ℕ
from_word [] = []
from_word (byte ∷ line) = if is_blank byte then from_word line else byte ∷ line

-- the line from its first blank
abbrev pub from_blank : List ℕ → List ℕ
from_blank [] = []
from_blank (byte ∷ line) = if is_blank byte then byte ∷ line else from_blank line

-- the line from the word of that place among its words, from 0, and its end where it has no such word
abbrev pub from_word_at : ℕ → List ℕ → List ℕ
from_word_at zero line = from_word line
from_word_at (suc index) line = from_word_at index (from_blank (from_word line))

-- how many bytes stand before the first that is not trimmed
abbrev pub edge_len : Option ℕ → List ℕ → ℕ
edge_len None line = length line
edge_len (Some start) line = start

-- the place among the bytes of a line where an end of it begins, which is trimmed with it
abbrev pub place_in : List ℕ → List ℕ → ℕ
place_in line end = edge_len (position (λ byte. not (is_edge byte)) line) line + (length (trimmed line) - length end)
