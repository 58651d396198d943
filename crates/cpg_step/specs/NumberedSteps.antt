-- what `step --numbers` writes of a script: behind each answer the numbers of the frames that the event sent
use Rattle.std.specs.Prelude.{ℕ, ◌-◌, List, ◌++◌, length, take, codes}
use Rattle.cpg_world_laws.specs.Worlds.{happens}
use Rattle.cpg_world_laws.specs.Replies.{Answer}
use Rattle.cpg_step.specs.Lines.{answer_line, look_lines}
use Rattle.cpg_step.specs.Numbers.{frames_text}
use Rattle.cpg_step.specs.Running.{Form}

-- a line without its end
abbrev pub unended : List ℕ → List ℕ
unended line = take (length line - 1) line

-- an answer, and behind it the numbers of the frames that the event sent: so many were sent before it, and so many after it
abbrev pub numbered_line : ℕ → ℕ → Answer → List ℕ
numbered_line before last answer = unended (answer_line answer) ++ frames_text before last ++ codes "\n"

-- lines of text, with those numbers
abbrev pub stepped_numbered : Form
stepped_numbered = record {
  answer = λ index w event answer. numbered_line (length w.sent) (length (happens w event).sent) answer;
  look = λ index w look. look_lines w look;
}
