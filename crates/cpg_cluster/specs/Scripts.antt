-- a script of commands
use Rattle.std.specs.Prelude.{ℕ, List, [], ◌∷◌, map, option_map, Result, Ok}
use Rattle.cpg_text.specs.Lines.{words_of}
use Rattle.cpg_text.specs.Commands.{commands_of}
use Rattle.cpg_text.specs.Reading.{item_then}
use Rattle.cpg_cluster.specs.declared.commands.Command.{Command}
use Rattle.cpg_cluster.specs.declared.commands.Numbered.{Numbered}
use Rattle.cpg_cluster.specs.Commands.{command_of}

-- a command with the number of its line
abbrev pub numbered : ℕ → Command → Numbered
numbered n said = record { number = n; command = said }

-- the commands of numbered lines, each with the number of its line, or the number of the first bad line
abbrev pub commands_in : ℕ → List (ℕ × List ℕ) → Result (List Numbered) ℕ
commands_in nodes [] = Ok []
commands_in nodes (line ∷ later) =
    item_then line.0 (option_map (numbered line.0) (command_of nodes (words_of line.1))) (commands_in nodes later)

-- the commands of a script, where there are so many nodes, or the number of its first bad line
abbrev pub commands_of_script : ℕ → List ℕ → Result (List Numbered) ℕ
commands_of_script nodes script = commands_in nodes (commands_of script)

-- the numbers of a script's lines that are not ignored
abbrev pub numbers_of : List ℕ → List ℕ
numbers_of script = map (λ line. line.0) (commands_of script)
