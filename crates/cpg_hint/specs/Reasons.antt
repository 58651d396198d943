-- the first word of each kind of line that does not fit
use Rattle.std.specs.Prelude.{ℕ, List, [], ◌∷◌, nat_le, if◌then◌else◌, Option, Some, None}
use Rattle.cpg_record.specs.Judging.{most_places}
use Rattle.cpg_text.specs.Lines.{words_of}
use Rattle.cpg_hint.specs.declared.patterns.Expected.TheVariants as expected
use Rattle.cpg_hint.specs.declared.words.Mismatch.{Mismatch}
use Rattle.cpg_hint.specs.Patterns.{first_mismatch}

-- of `NODE.CONN PID UID GID CALL`, or `gone` for CALL
abbrev pub why_no_entry : List (List ℕ) → Option Mismatch
why_no_entry words = first_mismatch 0 0 (expected.Caller ∷ expected.Pid ∷ expected.Uid ∷ expected.Gid ∷ expected.Op ∷ []) words

-- a word that does not fit, or else that there is no room behind so many entries
abbrev pub or_full : ℕ → Option Mismatch → Option Mismatch
or_full before None = if nat_le most_places before then Some (record { index = 0; expected = expected.Room }) else None
or_full before (Some mismatch) = Some mismatch

-- of a line of `judge` that follows so many entries
abbrev pub why_no_line : ℕ → List ℕ → Option Mismatch
why_no_line before line = or_full before (why_no_entry (words_of line))

-- of a command of `step`, where there are so many nodes
abbrev pub why_no_step : ℕ → List (List ℕ) → Option Mismatch
why_no_step nodes words = first_mismatch nodes 0 (expected.StepCommand ∷ []) words

-- of a command of `run`, where there are so many nodes
abbrev pub why_no_run : ℕ → List (List ℕ) → Option Mismatch
why_no_run nodes words = first_mismatch nodes 0 (expected.RunCommand ∷ []) words

-- of an ask, `UID GID`
abbrev pub why_no_ask : List (List ℕ) → Option Mismatch
why_no_ask words = first_mismatch 0 0 (expected.Uid ∷ expected.Gid ∷ []) words

-- of a line of a names part, `user NAME N` or `group NAME N`
abbrev pub why_no_naming : List (List ℕ) → Option Mismatch
why_no_naming words = first_mismatch 0 0 (expected.Table ∷ expected.Named ∷ expected.Number ∷ []) words
