-- what typed lines say
use Rattle.std.specs.Prelude.{ℕ, ⊤, List, ◌++◌, length, codes, nat_lt, Option, Some, None, if◌then◌else◌}
use Rattle.std.specs.Str.{bytes_eq}
use Rattle.cpg_cred.specs.declared.refusals.Refusal.TheVariants.{BadCommand}
use Rattle.cpg_cred.specs.Shown.{refusal_text}
use Rattle.cpg_text.specs.Lines.{words_of, trimmed, is_ignored}
use Rattle.cpg_cluster.specs.declared.commands.Command.{Command as Asked}
use Rattle.cpg_cluster.specs.Commands.{command_of, IsWithin}
use Rattle.cpg_cluster.specs.declared.shell.help.TheConstants.{HELP}
use Rattle.cpg_cluster.specs.declared.shell.lines.TheConstants.{MOST_LINE}
use Rattle.cpg_cluster.specs.declared.shell.typed.Typed.{Typed}
use Rattle.cpg_cluster.specs.declared.shell.typed.Typed.TheVariants.{Nothing, Help, Command, Bad}

-- a command, or a bad line where there is none
abbrev pub command_or_bad : Option Asked → Typed
command_or_bad None = Bad
command_or_bad (Some command) = Command command

-- what a trimmed line says, where there are so many nodes: help, or a command as in a script
abbrev pub said_by : ℕ → List ℕ → Typed
said_by nodes line =
    if is_ignored line then Nothing
    else if bytes_eq line (codes "help") then Help
    else command_or_bad (command_of nodes (words_of line))

-- what a line says; one that is too long is bad
abbrev pub typed_of : ℕ → List ℕ → Typed
typed_of nodes line = if nat_lt MOST_LINE (length line) then Bad else said_by nodes (trimmed line)

-- the node that a command names is there
abbrev pub IsTypedWithin : ℕ → Typed → Type 0
IsTypedWithin nodes (Command command) = IsWithin nodes command
IsTypedWithin nodes _ = ⊤

-- what is told of a bad line of that number: `cpgring: 41 BadCommand 7`
abbrev pub bad_line : ℕ → List ℕ
bad_line number = codes "cpgring: " ++ refusal_text (BadCommand number) ++ codes "\n"

-- what `help` prints: the commands, a line for each
unfoldable pub help_text : List ℕ
help_text = HELP.now
