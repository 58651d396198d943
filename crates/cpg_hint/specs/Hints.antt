-- what is told beside a script's fault: its line, a mark under the first word that does not fit, and what was wanted
use Rattle.std.specs.Prelude.{ℕ, ◌-◌, ◌==◌, List, [], ◌∷◌, Bool, true, false, if◌then◌else◌, Option, Some, None}
use Rattle.cpg_cred.specs.declared.refusals.Refusal.{Refusal}
use Rattle.cpg_cred.specs.declared.refusals.Refusal.TheVariants as refusal
use Rattle.cpg_text.specs.Lines.{lines_of, trimmed, words_of}
use Rattle.cpg_text.specs.declared.faults.Fault.{Fault}
use Rattle.cpg_accept.specs.Parts.{is_head}
use Rattle.cpg_hint.specs.declared.kinds.ScriptKind.{ScriptKind}
use Rattle.cpg_hint.specs.declared.kinds.ScriptKind.TheVariants as kind
use Rattle.cpg_hint.specs.declared.patterns.Expected.{Expected}
use Rattle.cpg_hint.specs.declared.patterns.Expected.TheVariants as expected
use Rattle.cpg_hint.specs.declared.words.Mismatch.{Mismatch}
use Rattle.cpg_hint.specs.Parts.{begun_at, part_hint}
use Rattle.cpg_hint.specs.Told.{line_at, told_mismatch}
use Rattle.cpg_hint.specs.Patterns.{first_mismatch}

-- how many nodes there are, where that matters
abbrev pub nodes_of : ScriptKind → ℕ
nodes_of (kind.Step nodes) = nodes
nodes_of (kind.Cluster nodes) = nodes
nodes_of _ = 0

-- what is wanted of a line; of an `accept` line that stands in an ask part
abbrev pub pattern_of : ScriptKind → List Expected
pattern_of kind.Judge = expected.Caller ∷ expected.Pid ∷ expected.Uid ∷ expected.Gid ∷ expected.Op ∷ []
pattern_of kind.Accept = expected.Uid ∷ expected.Gid ∷ []
pattern_of (kind.Step nodes) = expected.StepCommand ∷ []
pattern_of (kind.Cluster nodes) = expected.RunCommand ∷ []

-- one of the first so many lines begins a part
abbrev pub has_head : ℕ → List (List ℕ) → Bool
has_head number [] = false
has_head number (line ∷ later) = if number == 0 then false else if is_head line then true else has_head (number - 1) later

-- the word that does not fit; a bad line whose words all fit has no room
abbrev pub or_room : Option Mismatch → Mismatch
or_room None = record { index = 0; expected = expected.Room }
or_room (Some mismatch) = mismatch

-- what is wrong with a bad line, which of an `accept` script stands in a part, or before the first
abbrev pub mismatch_in : ScriptKind → Bool → List ℕ → Mismatch
mismatch_in kind.Accept false line = record { index = 0; expected = expected.Head }
mismatch_in of in_part line = or_room (first_mismatch (nodes_of of) 0 (pattern_of of) (words_of (trimmed line)))

-- what is told of the bad line of that number, where the script has it
abbrev pub command_hint : ScriptKind → ℕ → List (List ℕ) → Option (List ℕ) → List ℕ
command_hint of number lines None = []
command_hint of number lines (Some line) = told_mismatch (nodes_of of) number line (mismatch_in of (has_head number lines) line)

-- what is told of a fault of the script as a whole: of its bad line, and of no other
abbrev pub whole_hint : ScriptKind → Refusal → List (List ℕ) → List ℕ
whole_hint of (refusal.BadCommand number) lines = command_hint of number lines (line_at number lines)
whole_hint of _ lines = []

-- what is told of a fault, of a part or of the script as a whole
abbrev pub hint_by : ScriptKind → Option ℕ → Refusal → List (List ℕ) → List ℕ
hint_by of None refused lines = whole_hint of refused lines
hint_by of (Some part) refused lines = part_hint refused (begun_at part 1 lines)

-- what is told beside a script's fault
abbrev pub hint_text : ScriptKind → List ℕ → Fault → List ℕ
hint_text of script fault = hint_by of fault.part fault.refusal (lines_of script)
