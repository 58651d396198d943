-- a script of commands
use Rattle.std.specs.Prelude.{ℕ, List, Result}
use Rattle.cpg_text.specs.Lines.{words_of}
use Rattle.cpg_text.specs.Reading.{read_all}
use Rattle.cpg_step.specs.declared.commands.Command.{Command}
use Rattle.cpg_step.specs.Commands.{command_of}

-- the commands of a script, in a ring of so many nodes, or the number of its first bad line
abbrev pub commands_of_script : ℕ → List ℕ → Result (List Command) ℕ
commands_of_script nodes script = read_all (λ before line. command_of nodes (words_of line)) script
