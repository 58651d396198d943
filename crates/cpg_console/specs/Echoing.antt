-- what `step --echo` prints: each line of a command behind the number of its script line and what the command is of
use Rattle.std.specs.Prelude.{ℕ, List, [], ◌∷◌, ◌++◌, codes, decimal, slice_index, Option, Result}
use Rattle.std.specs.List.{concat}
use Rattle.cpg_cred.specs.declared.refusals.Refusal.{Refusal}
use Rattle.cpg_world_laws.specs.Worlds.{WorldValue}
use Rattle.cpg_step.specs.declared.commands.Command.{Command}
use Rattle.cpg_step.specs.declared.targets.Target.{Target}
use Rattle.cpg_step.specs.Gathering.{EndsGathered, IsGathered, LeavesGathered}
use Rattle.cpg_step.specs.Lines.{answer_line, look_lines}
use Rattle.cpg_step.specs.Running.{Form}
use Rattle.cpg_step.specs.Targets.{event_target, look_target, target_word}
use Rattle.cpg_cluster.specs.Lines.{echoed}

-- the number of a line and what its command is of, as they stand before each line that is printed of it
abbrev pub echo_of : ℕ → Target → List ℕ
echo_of number target = decimal number ++ codes " " ++ target_word target ++ codes " "

-- lines of text, each behind its echo; the lines of commands have those numbers
abbrev pub stepped_echoed : List ℕ → Form
stepped_echoed numbers = record {
  answer = λ index w event answer. echoed (echo_of (slice_index numbers index) (event_target event)) (answer_line answer);
  look = λ index w look. echoed (echo_of (slice_index numbers index) (look_target look)) (concat (look_lines w look)) ∷ [];
}

-- what the commands of a script print is written
abbrev pub IsWritten : Result (List Command) ℕ → List ℕ → WorldValue → Option (List ℕ) → Option (List ℕ) → Type 0
IsWritten commands numbers w old new = IsGathered (stepped_echoed numbers) commands w old new

-- what a refusal leaves of it
abbrev pub Leaves : Result (List Command) ℕ → List ℕ → Refusal → WorldValue → Option (List ℕ) → Option (List ℕ) → Type 0
Leaves commands numbers refused w old new = LeavesGathered (stepped_echoed numbers) commands refused w old new

-- the refusals, and what they leave whatever the reader tells
abbrev pub EndsEchoing : Refusal → Option (List ℕ) → Option (List ℕ) → Type 0
EndsEchoing refused old new = EndsGathered refused old new
