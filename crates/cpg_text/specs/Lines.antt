-- lines and words, by this project's own rule
use Rattle.std.specs.Prelude.{ℕ, ◌-◌, List, [], ◌∷◌, length, take, drop, Bool, true, ◌==◌, ◌||◌, not, nat_lt, Option, Some, None}
use Rattle.std.specs.List.{slice_split, position, suffix_len, filter}

-- LF ends a line
abbrev pub is_line_feed : ℕ → Bool
is_line_feed byte = byte == 10

-- space and tab stand between words
abbrev pub is_blank : ℕ → Bool
is_blank byte = (byte == 32) || (byte == 9)

-- space, tab and CR are trimmed
abbrev pub is_edge : ℕ → Bool
is_edge byte = is_blank byte || (byte == 13)

-- what stands before, between and after the line feeds: a text that ends in one has an empty last line
abbrev pub lines_of : List ℕ → List (List ℕ)
lines_of text = slice_split is_line_feed text

-- the lines of a text, if there is one
abbrev pub lines_left : Option (List ℕ) → List (List ℕ)
lines_left None = []
lines_left (Some text) = lines_of text

-- what a line has from a place on, and nothing where there is no place
abbrev pub from : Option ℕ → List ℕ → List ℕ
from None line = []
from (Some place) line = drop place line

-- the line from its first byte that is not trimmed
abbrev pub trimmed_front : List ℕ → List ℕ
trimmed_front line = from (position (λ byte. not (is_edge byte)) line) line

-- the line up to its last byte that is not trimmed
abbrev pub trimmed_end : List ℕ → List ℕ
trimmed_end line = take (length line - suffix_len is_edge line) line

-- the line without the space, tab and CR at both ends
abbrev pub trimmed : List ℕ → List ℕ
trimmed line = trimmed_end (trimmed_front line)

-- the words of a line: what stands between blanks and is not empty
abbrev pub words_of : List ℕ → List (List ℕ)
words_of line = filter (λ word. nat_lt 0 (length word)) (slice_split is_blank line)

-- the word that is the only one
abbrev pub only : List (List ℕ) → Option (List ℕ)
only (word ∷ []) = Some word
only _ = None

-- an empty line, or one that begins with `#`
abbrev pub is_ignored : List ℕ → Bool
is_ignored [] = true
is_ignored (byte ∷ rest) = byte == 35
