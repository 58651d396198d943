-- what a script of commands does, what it prints, and what its faults leave of both
use Rattle.std.specs.Prelude.{ℕ, ◌≡◌, ◌+◌, ◌⊎◌, ⊤, List, [], ◌∷◌, ◌++◌, length, Option, Result, Ok, Err}
use Rattle.std.specs.List.{concat}
use Rattle.std.specs.Io.KnownBytes.{Appends, Keeps}
use Rattle.cpg_cred.specs.declared.refusals.Refusal.{Refusal}
use Rattle.cpg_cred.specs.declared.refusals.Refusal.TheVariants as refusal
use Rattle.cpg_text.specs.Streams.{AppendsFront}
use Rattle.cpg_world_laws.specs.declared.events.WorldEvent.{WorldEvent}
use Rattle.cpg_world_laws.specs.Worlds.{WorldValue, happens, runs}
use Rattle.cpg_world_laws.specs.Replies.{Answer, AreReplies}
use Rattle.cpg_step.specs.declared.commands.Command.{Command}
use Rattle.cpg_step.specs.declared.commands.Command.TheVariants.{Act, Look}
use Rattle.cpg_step.specs.declared.commands.Look.{Look as LookValue}
use Rattle.cpg_step.specs.Lines.{answer_line, look_lines}

-- the events of the commands that act
abbrev pub events_in : List Command → List WorldEvent
events_in [] = []
events_in (Act event ∷ later) = event ∷ events_in later
events_in (Look look ∷ later) = events_in later

-- the world after commands: those that look leave it as it is
abbrev pub after : WorldValue → List Command → WorldValue
after w commands = runs w (events_in commands)

-- A form: the line of what an event is answered, and the lines of a look, by the command's index among those of its script
-- and the world that it meets.
pub record Form : Type 0 where
  pub answer : ℕ → WorldValue → WorldEvent → Answer → List ℕ
  pub look : ℕ → WorldValue → LookValue → List (List ℕ)

-- what a form has of an answer and of a look
abbrev pub answer_by : Form → ℕ → WorldValue → WorldEvent → Answer → List ℕ
answer_by form index w event answer = form.answer index w event answer

abbrev pub look_by : Form → ℕ → WorldValue → LookValue → List (List ℕ)
look_by form index w look = form.look index w look

-- lines of text
abbrev pub stepped_text : Form
stepped_text = record { answer = λ index w event answer. answer_line answer; look = λ index w look. look_lines w look }

-- the lines of commands, each in the world that it meets, where that is what their events are answered; the first has that
-- index
abbrev pub lines_of : Form → ℕ → WorldValue → List Command → List Answer → List (List ℕ)
lines_of form index w [] answers = []
lines_of form index w (Look look ∷ later) answers = look_by form index w look ++ lines_of form (index + 1) w later answers
lines_of form index w (Act event ∷ later) [] = []
lines_of form index w (Act event ∷ later) (answer ∷ answers) =
    answer_by form index w event answer ∷ lines_of form (index + 1) (happens w event) later answers

-- The commands are done: the world is the one after them, and what they print is written.
pub record AreDone (form : Form) (index : ℕ) (w : WorldValue) (commands : List Command) (old new : Option (List ℕ)) (world : WorldValue) : Type 0 where
  pub answers : List Answer
  pub replies : AreReplies w (events_in commands) answers
  pub world_after : world ≡ after w commands
  pub written : Appends old new (concat (lines_of form index w commands answers))

-- The command is done, and a front of what it prints is written.
pub record IsWrittenInPart (form : Form) (index : ℕ) (w : WorldValue) (command : Command) (old new : Option (List ℕ)) (world : WorldValue) : Type 0 where
  pub answers : List Answer
  pub replies : AreReplies w (events_in (command ∷ [])) answers
  pub world_after : world ≡ after w (command ∷ [])
  pub written : AppendsFront old new (concat (lines_of form index w (command ∷ []) answers))

-- what a refusal leaves of the command that meets it: want of memory none of its lines, whether it was done or not, and a writer
-- that fails a front of them
abbrev pub LeavesOf : Refusal → Form → ℕ → WorldValue → Command → Option (List ℕ) → Option (List ℕ) → WorldValue → Type 0
LeavesOf refusal.Memory form index w command old new world = Keeps old new × ((world ≡ w) ⊎ (world ≡ after w (command ∷ [])))
LeavesOf refusal.Write form index w command old new world = IsWrittenInPart form index w command old new world
LeavesOf _ form index w command old new world = ⊥

-- A command meets the refusal: those before it are done and their lines are written, and none after it is begun.
pub record IsStopped (refused : Refusal) (form : Form) (w : WorldValue) (commands : List Command) (old new : Option (List ℕ)) (world : WorldValue) : Type 0 where
  pub before : List Command
  pub met : Command
  pub later : List Command
  pub whole : commands ≡ before ++ met ∷ later
  pub between : WorldValue
  pub told : Option (List ℕ)
  pub done : AreDone form 0 w before old told between
  pub left : LeavesOf refused form (length before) between met told new world

-- nothing is written, and nothing is done
abbrev pub IsUntouched : WorldValue → Option (List ℕ) → Option (List ℕ) → WorldValue → Type 0
IsUntouched w old new world = Keeps old new × (world ≡ w)

-- all commands of a script are done, and what they print is written in that form
abbrev pub IsRunIn : Form → Result (List Command) ℕ → WorldValue → Option (List ℕ) → Option (List ℕ) → WorldValue → Type 0
IsRunIn form (Ok commands) w old new world = AreDone form 0 w commands old new world
IsRunIn form (Err line) w old new world = ⊥

-- What a refusal leaves. A bad line is the first, and after it, or where the script could not be read, nothing is written or done;
-- want of memory leaves either nothing, or the commands before the one that met it; and so does a writer that fails.
abbrev pub LeavesIn : Form → Result (List Command) ℕ → Refusal → WorldValue → Option (List ℕ) → Option (List ℕ) → WorldValue → Type 0
LeavesIn form (Err bad) (refusal.BadCommand line) w old new world = (line ≡ bad) × IsUntouched w old new world
LeavesIn form (Err bad) refusal.Memory w old new world = IsUntouched w old new world
LeavesIn form script refusal.Read w old new world = IsUntouched w old new world
LeavesIn form (Ok commands) refusal.Memory w old new world = IsUntouched w old new world ⊎ IsStopped refusal.Memory form w commands old new world
LeavesIn form (Ok commands) refusal.Write w old new world = IsStopped refusal.Write form w commands old new world
LeavesIn _ _ _ w old new world = ⊥

-- the same as text
abbrev pub IsRun : Result (List Command) ℕ → WorldValue → Option (List ℕ) → Option (List ℕ) → WorldValue → Type 0
IsRun script w old new world = IsRunIn stepped_text script w old new world

abbrev pub Leaves : Result (List Command) ℕ → Refusal → WorldValue → Option (List ℕ) → Option (List ℕ) → WorldValue → Type 0
Leaves script refused w old new world = LeavesIn stepped_text script refused w old new world

-- the refusals of a script, and what they leave whatever the reader tells: nothing before it was read and checked
abbrev pub EndsRunning : Refusal → WorldValue → Option (List ℕ) → Option (List ℕ) → WorldValue → Type 0
EndsRunning refusal.Read w old new world = IsUntouched w old new world
EndsRunning (refusal.BadCommand line) w old new world = IsUntouched w old new world
EndsRunning refusal.Write w old new world = ⊤
EndsRunning refusal.Memory w old new world = ⊤
EndsRunning _ w old new world = ⊥
