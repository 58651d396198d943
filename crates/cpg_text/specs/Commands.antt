-- scripts as lines of commands
use Rattle.std.specs.Prelude.{ℕ, List, map, not}
use Rattle.std.specs.List.{filter, enumerate_from}
use Rattle.cpg_text.specs.Lines.{lines_of, trimmed, is_ignored}

-- the lines that are not ignored, trimmed, each with its number, where the first line has that number
abbrev pub commands_from : ℕ → List (List ℕ) → List (ℕ × List ℕ)
commands_from number lines = filter (λ command. not (is_ignored command.1)) (enumerate_from number (map trimmed lines))

-- the commands of a script; lines are counted from 1
abbrev pub commands_of : List ℕ → List (ℕ × List ℕ)
commands_of script = commands_from 1 (lines_of script)
