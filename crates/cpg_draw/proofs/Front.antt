-- the front of a script that an excerpt is of
use Rattle.std.proofs.Common.{◌≡◌, ◌≤◌, ℕ, List, All, length, take, sym}
use Rattle.std.proofs.lemmas.List.{take_all}
use Rattle.std.proofs.lemmas.List.Elements.{All-take}
use Rattle.cpg_step.specs.declared.commands.Command.{Command}
use Rattle.cpg_step.specs.Commands.{IsWithin}

-- what all commands do, those of the front do
pub cut_within : (last nodes : ℕ) (commands : List Command) → All (λ command. IsWithin nodes command) commands → All (λ command. IsWithin nodes command) (take last commands)
cut_within last nodes commands all = All-take (λ command. IsWithin nodes command) last commands all

-- where the excerpt ends behind the script, that is all of it
pub cut_whole : (last : ℕ) (commands : List Command) → length commands ≤ last → commands ≡ take last commands
cut_whole last commands all = sym (take_all last commands all)
