-- what is told of a fault of a names or conf part
use Rattle.std.specs.Prelude.{ℕ, ◌+◌, ◌-◌, ◌==◌, List, [], ◌∷◌, codes, drop, take, Bool, true, false, if◌then◌else◌, Option, Some, None}
use Rattle.std.specs.List.{position}
use Rattle.std.specs.Str.{bytes_eq}
use Rattle.cpg_cred.specs.declared.refusals.Refusal.{Refusal}
use Rattle.cpg_cred.specs.declared.refusals.Refusal.TheVariants as refusal
use Rattle.cpg_text.specs.Lines.{trimmed, words_of}
use Rattle.cpg_conf.specs.Lines.{Line, Open, Close, line_of}
use Rattle.cpg_conf.specs.Names.{next_number}
use Rattle.cpg_accept.specs.Parts.{is_head}
use Rattle.cpg_hint.specs.declared.parts.Turn.{Turn}
use Rattle.cpg_hint.specs.declared.parts.Turn.TheVariants as turn
use Rattle.cpg_hint.specs.declared.patterns.Expected.TheVariants as expected
use Rattle.cpg_hint.specs.declared.words.Mismatch.{Mismatch}
use Rattle.cpg_hint.specs.Marks.{marked}
use Rattle.cpg_hint.specs.Places.{place_in}
use Rattle.cpg_hint.specs.Reasons.{why_no_naming}
use Rattle.cpg_hint.specs.Told.{line_at, told_mismatch}

-- a part: the number in the script of the line that begins it, whether it is one of names, and the lines after that line
pub record Begun : Type 0 where
  pub number : ℕ
  pub names : Bool
  pub lines : List (List ℕ)

-- the part of that number, where the first of the lines has the other
abbrev pub begun_at : ℕ → ℕ → List (List ℕ) → Option Begun
begun_at part number [] = None
begun_at part number (line ∷ later) =
    if is_head line then
    if part == 1 then Some (record { number = number; names = bytes_eq (trimmed line) (codes "%names"); lines = later })
    else begun_at (part - 1) (next_number number) later
    else begun_at part (next_number number) later

-- what a line does to the sections
abbrev pub turn_of : Line → Turn
turn_of (Open name) = turn.Opens
turn_of Close = turn.Closes
turn_of _ = turn.Stays

-- how many sections are open after it; past the 4,294,967,295th the count stays
abbrev pub depth_after : Turn → ℕ → ℕ
depth_after turn.Opens depth = next_number depth
depth_after turn.Closes depth = depth - 1
depth_after turn.Stays depth = depth

-- the line that opened the outermost section last, after a line of that number that so many open sections stand before
abbrev pub opened_by : Turn → ℕ → ℕ → Option ℕ → Option ℕ
opened_by turn.Opens depth number last = if depth == 0 then Some number else last
opened_by turn.Closes depth number last = last
opened_by turn.Stays depth number last = last

-- the line that opened the outermost section last, up to the part's end: where the part leaves one open, it is that one
abbrev pub open_line : ℕ → Option ℕ → ℕ → List (List ℕ) → Option ℕ
open_line depth last number [] = last
open_line depth last number (line ∷ later) =
    if is_head line then last
    else
    let turned = turn_of (line_of (trimmed line)) in
    open_line (depth_after turned depth) (opened_by turned depth number last) (next_number number) later

-- the line of the part that a fault is told of
abbrev pub flaw_line : Refusal → List (List ℕ) → Option ℕ
flaw_line (refusal.BadLine line) lines = Some line
flaw_line (refusal.Unopened line) lines = Some line
flaw_line (refusal.BadItem line) lines = Some line
flaw_line (refusal.BadValue line) lines = Some line
flaw_line (refusal.UnknownName line) lines = Some line
flaw_line refusal.Unclosed lines = open_line 0 None 1 lines
flaw_line _ lines = None

-- the value behind the first colon
abbrev pub value_behind : Option ℕ → List ℕ → List ℕ
value_behind None line = []
value_behind (Some colon) line = trimmed (drop (colon + 1) line)

-- the key before the first colon is `uid`
abbrev pub is_uid : Option ℕ → List ℕ → Bool
is_uid None line = false
is_uid (Some colon) line = bytes_eq (trimmed (take colon line)) (codes "uid")

-- where the first colon stands
abbrev pub colon_of : List ℕ → Option ℕ
colon_of line = position (λ byte. byte == 58) line

-- the end of a trimmed conf line that a fault is of: a value, or all of the line
abbrev pub flaw_end : Refusal → List ℕ → List ℕ
flaw_end (refusal.BadValue number) line = value_behind (colon_of line) line
flaw_end (refusal.UnknownName number) line = value_behind (colon_of line) line
flaw_end _ line = line

-- what is wanted of the name of a user, or of a group
abbrev pub name_phrase : Bool → List ℕ
name_phrase true = codes "VALUE: a number, or a NAME that a line user NAME N of the names part has"
name_phrase false = codes "VALUE: a number, or a NAME that a line group NAME N of the names part has"

-- what was wanted there
abbrev pub flaw_phrase : Refusal → List ℕ → List ℕ
flaw_phrase (refusal.Unopened number) line = codes "nothing: no section is open here that this could close"
flaw_phrase refusal.Unclosed line = codes "a line } further on: this section is not closed before the part ends"
flaw_phrase (refusal.BadItem number) line = codes "KEY: uid or gid, as this section is uidgid"
flaw_phrase (refusal.BadValue number) line = codes "VALUE: a number from 0 to 4294967295, or a name"
flaw_phrase (refusal.UnknownName number) line = name_phrase (is_uid (colon_of line) line)
flaw_phrase _ line = codes "a line NAME {, KEY: VALUE, or }"

-- the word of a line of a names part that does not fit
abbrev pub or_whole : Option Mismatch → Mismatch
or_whole None = record { index = 0; expected = expected.Table }
or_whole (Some mismatch) = mismatch

-- what is told of a line of a names part, or of a conf part
abbrev pub flaw_text : Bool → Refusal → ℕ → List ℕ → List ℕ
flaw_text true refused number line = told_mismatch 0 number line (or_whole (why_no_naming (words_of (trimmed line))))
flaw_text false refused number line = marked number line (place_in line (flaw_end refused (trimmed line))) (flaw_phrase refused (trimmed line))

-- what is told of a line of a part, where the part has it
abbrev pub line_hint : Refusal → Begun → ℕ → Option (List ℕ) → List ℕ
line_hint refused begun offset None = []
line_hint refused begun offset (Some line) = flaw_text begun.names refused (begun.number + offset) line

-- what is told of a fault of a part, at the line where it is told
abbrev pub offset_hint : Refusal → Begun → Option ℕ → List ℕ
offset_hint refused begun None = []
offset_hint refused begun (Some offset) = line_hint refused begun offset (line_at offset begun.lines)

-- what is told of a fault of a part, where the script has that part
abbrev pub part_hint : Refusal → Option Begun → List ℕ
part_hint refused None = []
part_hint refused (Some begun) = offset_hint refused begun (flaw_line refused begun.lines)
