-- how many lines there are
use Rattle.std.proofs.Common.{ℕ, ◌+◌, ◌≤◌, List, length, arith}
use Rattle.std.proofs.lemmas.List.Splits.{length-slice_split}
use Rattle.std.proofs.lemmas.List.Sums.{count_by-le-length}
use Rattle.cpg_text.specs.Lines.{is_line_feed, lines_of}

-- a text has no more lines than bytes, and one
pub lines_few : (text : List ℕ) → length (lines_of text) ≤ length text + 1
lines_few text = omega (arith, length-slice_split is_line_feed text, count_by-le-length is_line_feed text)
