-- what is told of a script of commands as JSON
use Rattle.std.specs.Prelude.{ℕ, List, ◌++◌, length, slice_index}
use Rattle.cpg_world_laws.specs.Worlds.{happens}
use Rattle.cpg_step.specs.declared.commands.Command.{Command}
use Rattle.cpg_step.specs.declared.commands.Command.TheVariants.{Act, Look}
use Rattle.cpg_step.specs.Running.{Form}
use Rattle.cpg_step.specs.Targets.{command_target, target_word}
use Rattle.cpg_json.specs.Answers.{answer_json, look_json}
use Rattle.cpg_json.specs.Marks.{mark_fields, sent_fields}
use Rattle.cpg_json.specs.Objects.{more}
use Rattle.cpg_json.specs.declared.marks.Marks.{Marks}

-- the head of a command's answers, by its index, and by how many frames were sent before it and after it; the lines of commands
-- have those numbers
abbrev pub step_head : Marks → List ℕ → ℕ → Command → ℕ → ℕ → List ℕ
step_head marks numbers index command before last =
    more (mark_fields marks (slice_index numbers index) (target_word (command_target command))) ++ more (sent_fields marks before last)

-- objects, one a line, each with those marks
abbrev pub stepped_json : Marks → List ℕ → Form
stepped_json marks numbers = record {
  answer = λ index w event answer. answer_json (step_head marks numbers index (Act event) (length w.sent) (length (happens w event).sent)) answer;
  look = λ index w look. look_json (step_head marks numbers index (Look look) (length w.sent) (length w.sent)) w look;
}
