-- what a script of commands writes where all is written at last, and what its faults leave
use Rattle.std.specs.Prelude.{ℕ, ◌≡◌, ⊤, List, Option, Result, Ok, Err}
use Rattle.std.specs.List.{concat}
use Rattle.std.specs.Io.KnownBytes.{Appends, Keeps}
use Rattle.cpg_cred.specs.declared.refusals.Refusal.{Refusal}
use Rattle.cpg_cred.specs.declared.refusals.Refusal.TheVariants as refusal
use Rattle.cpg_text.specs.Streams.{AppendsFront}
use Rattle.cpg_world_laws.specs.Worlds.{WorldValue}
use Rattle.cpg_world_laws.specs.Replies.{Answer, AreReplies}
use Rattle.cpg_step.specs.declared.commands.Command.{Command}
use Rattle.cpg_step.specs.Running.{events_in, lines_of, Form}

-- The text is what the commands print in that form, as the world answers their events.
pub record IsText (form : Form) (w : WorldValue) (commands : List Command) (text : List ℕ) : Type 0 where
  pub answers : List Answer
  pub replies : AreReplies w (events_in commands) answers
  pub said : text ≡ concat (lines_of form 0 w commands answers)

-- what the commands of a script print is written
abbrev pub IsGathered : Form → Result (List Command) ℕ → WorldValue → Option (List ℕ) → Option (List ℕ) → Type 0
IsGathered form (Ok commands) w old new = (text : List ℕ) × IsText form w commands text × Appends old new text
IsGathered form (Err line) w old new = ⊥

-- What a refusal leaves: nothing; and of a writer that fails a front of the text. A bad line is the first.
abbrev pub LeavesGathered : Form → Result (List Command) ℕ → Refusal → WorldValue → Option (List ℕ) → Option (List ℕ) → Type 0
LeavesGathered form (Err bad) (refusal.BadCommand line) w old new = (line ≡ bad) × Keeps old new
LeavesGathered form script refusal.Read w old new = Keeps old new
LeavesGathered form script refusal.Memory w old new = Keeps old new
LeavesGathered form (Ok commands) refusal.Write w old new = (text : List ℕ) × IsText form w commands text × AppendsFront old new text
LeavesGathered _ _ _ w old new = ⊥

-- the refusals, and what they leave whatever the reader tells: nothing before the text is whole
abbrev pub EndsGathered : Refusal → Option (List ℕ) → Option (List ℕ) → Type 0
EndsGathered refusal.Read old new = Keeps old new
EndsGathered (refusal.BadCommand line) old new = Keeps old new
EndsGathered refusal.Memory old new = Keeps old new
EndsGathered refusal.Write old new = ⊤
EndsGathered _ old new = ⊥
