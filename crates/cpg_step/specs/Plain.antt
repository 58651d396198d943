-- commands that are written as they are printed
use Rattle.cpg_world_laws.specs.declared.events.WorldEvent.TheVariants.{Deliver, Frame, Take}
use Rattle.cpg_step.specs.declared.commands.Command.{Command}
use Rattle.cpg_step.specs.declared.commands.Command.TheVariants.{Act}
use Rattle.cpg_step.specs.declared.plain.Plain.{Plain}
use Rattle.cpg_step.specs.declared.plain.Plain.TheVariants as plain

-- the command
abbrev pub plain_command : Plain → Command
plain_command (plain.Deliver node) = Act (Deliver node)
plain_command (plain.Frame node number) = Act (Frame node number)
plain_command (plain.Take node conn) = Act (Take node conn)
