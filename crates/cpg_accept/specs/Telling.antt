-- what is told of a file's fault
use Rattle.std.specs.Prelude.{ℕ, ◌-◌, ◌&&◌, nat_lt, List, [], ◌++◌, map, take, codes, decimal, if◌then◌else◌, Option, Some, None}
use Rattle.std.specs.List.{slice_get}
use Rattle.cpg_cred.specs.Shown.{refusal_text}
use Rattle.cpg_cred.specs.declared.refusals.Refusal.{Refusal}
use Rattle.cpg_cred.specs.declared.refusals.Refusal.TheVariants.{BadLine, Unopened, BadItem, BadValue, UnknownName}
use Rattle.cpg_text.specs.Lines.{lines_of, trimmed}

-- the line that a refusal names
abbrev pub line_in : Refusal → Option ℕ
line_in (BadLine line) = Some line
line_in (Unopened line) = Some line
line_in (BadItem line) = Some line
line_in (BadValue line) = Some line
line_in (UnknownName line) = Some line
line_in _ = None

-- the refusal without its line
abbrev pub cause_text : Refusal → List ℕ
cause_text (BadLine line) = codes "31 BadLine"
cause_text (Unopened line) = codes "32 Unopened"
cause_text (BadItem line) = codes "34 BadItem"
cause_text (BadValue line) = codes "35 BadValue"
cause_text (UnknownName line) = codes "36 UnknownName"
cause_text refusal = refusal_text refusal

-- the number of a line, where there is one
abbrev pub place_text : Option ℕ → List ℕ
place_text None = []
place_text (Some line) = decimal line ++ codes ":"

-- the byte itself, and `?` for one that is no printable ASCII
abbrev pub printable : ℕ → ℕ
printable byte = if nat_lt 31 byte && nat_lt byte 127 then byte else 63

-- a line as it is shown: trimmed, and its first 120 bytes
abbrev pub shown : List ℕ → List ℕ
shown line = map printable (take 120 (trimmed line))

-- a line behind a comma, where there is one
abbrev pub shown_text : Option (List ℕ) → List ℕ
shown_text None = []
shown_text (Some line) = codes ", " ++ shown line

-- the line of that number, from 1, where there is one
abbrev pub shown_at : List ℕ → Option ℕ → List ℕ
shown_at text None = []
shown_at text (Some number) = shown_text (slice_get (lines_of text) (number - 1))

-- cpgring: PATH:LINE: REFUSAL, and what stands there; cpgring: PATH: REFUSAL, where the refusal names no line
abbrev pub fault_text : List ℕ → List ℕ → Refusal → List ℕ
fault_text path text refusal =
    codes "cpgring: " ++ path ++ codes ":" ++ place_text (line_in refusal) ++ codes " " ++ cause_text refusal ++ shown_at text (line_in refusal) ++ codes "\n"
