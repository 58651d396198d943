-- how many words there are
use Rattle.std.proofs.Common.{ℕ, ◌+◌, ◌≤◌, List, length, arith}
use Rattle.std.proofs.lemmas.List.Splits.{length-slice_split}
use Rattle.std.proofs.lemmas.List.Sums.{count_by-le-length, length-filter}
use Rattle.std.specs.List.{slice_split}
use Rattle.std.specs.Prelude.{nat_lt}
use Rattle.cpg_text.specs.Lines.{is_blank, words_of}

-- a line has no more words than bytes, and one
pub words_few : (line : List ℕ) → length (words_of line) ≤ length line + 1
words_few line =
    omega (arith, length-filter (λ word. nat_lt 0 (length word)) (slice_split is_blank line), count_by-le-length (λ word. nat_lt 0 (length word)) (slice_split is_blank line), length-slice_split is_blank line, count_by-le-length is_blank line)
