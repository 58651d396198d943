-- what is told of one line
use Rattle.std.specs.Prelude.{ℕ, ◌-◌, ◌==◌, List, [], ◌∷◌, if◌then◌else◌, Option, Some, None}
use Rattle.cpg_text.specs.Lines.{trimmed}
use Rattle.cpg_hint.specs.declared.words.Mismatch.{Mismatch}
use Rattle.cpg_hint.specs.Marks.{marked}
use Rattle.cpg_hint.specs.Phrases.{expected_text}
use Rattle.cpg_hint.specs.Places.{from_word_at, place_in}

-- the line of that number, the first of them having 1
abbrev pub line_at : ℕ → List (List ℕ) → Option (List ℕ)
line_at number [] = None
line_at number (line ∷ later) = if number == 1 then Some line else line_at (number - 1) later

-- the line of that number with a mark under the word that does not fit, and what was wanted there
abbrev pub told_mismatch : ℕ → ℕ → List ℕ → Mismatch → List ℕ
told_mismatch nodes number line mismatch =
    marked number line (place_in line (from_word_at mismatch.index (trimmed line))) (expected_text nodes mismatch.expected)
