-- lines of a conf text, by their shapes, which are those of Corosync's configuration files
use Rattle.std.specs.Prelude.{ℕ, ◌+◌, ◌-◌, ◌==◌, nat_lt, List, [], length, take, drop, codes, slice_index, Option, Some, None, if◌then◌else◌}
use Rattle.std.specs.List.{position}
use Rattle.std.specs.Str.{bytes_eq}
use Rattle.cpg_text.specs.Lines.{trimmed, is_ignored}

-- what a line is
pub data Line : Type 0 where
  Ignored : Line
  Close : Line
  Open : List ℕ → Line
  Key : List ℕ → List ℕ → Line
  Bad : Line

-- the name that stands before a brace at the line's end, and nothing where no brace ends the line
abbrev pub opened : List ℕ → List ℕ
opened line = if slice_index line (length line - 1) == 123 then trimmed (take (length line - 1) line) else []

-- the key and the value before and after a colon; without one the line is bad
abbrev pub keyed : List ℕ → Option ℕ → Line
keyed line None = Bad
keyed line (Some colon) = Key (trimmed (take colon line)) (trimmed (drop (colon + 1) line))

-- what a trimmed line is, the first that fits: ignored, a close, an open, a key with its value, bad
abbrev pub line_of : List ℕ → Line
line_of line =
    if is_ignored line then Ignored
    else if bytes_eq line (codes "}") then Close
    else if nat_lt 0 (length (opened line)) then Open (opened line)
    else keyed line (position (λ byte. byte == 58) line)
