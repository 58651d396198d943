-- what a script of commands prints, and what its faults leave
use Rattle.std.specs.Prelude.{ℕ, ◌≡◌, ◌≢◌, ◌⊎◌, ⊤, true, List, ◌∷◌, ◌++◌, map, Option, Result, Ok, Err}
use Rattle.std.specs.Io.KnownBytes.{Appends, Keeps}
use Rattle.cpg_world_laws.specs.Worlds.{WorldValue}
use Rattle.cpg_cred.specs.declared.refusals.Refusal.{Refusal}
use Rattle.cpg_cred.specs.declared.refusals.Refusal.TheVariants as refusal
use Rattle.cpg_text.specs.Streams.{AppendsFront}
use Rattle.cpg_cluster.specs.declared.commands.Numbered.{Numbered}
use Rattle.cpg_cluster.specs.declared.commands.Command.{Command}
use Rattle.cpg_cluster.specs.Answers.{Answer, SessionsValue, no_sessions, MayAnswer, AreAnswered}
use Rattle.cpg_cluster.specs.Commands.{waits}
use Rattle.cpg_cluster.specs.Lines.{Printed, text_of}

-- the line's command is one that waits
abbrev pub IsWait : Numbered → Type 0
IsWait line = waits line.command ≡ true

-- The command is done: it was answered so, and this is printed of that.
pub record IsDone (printed : Printed) (start : WorldValue) (sessions : SessionsValue) (line : Numbered) (text : List ℕ) (left : SessionsValue) : Type 0 where
  pub answer : Answer
  pub may : MayAnswer start sessions line.command answer left
  pub told : answer ≢ Err refusal.Memory
  pub said : text ≡ printed line answer

-- The commands are done: they were answered so, and what is printed of the answers is written.
pub record AreDone (printed : Printed) (start : WorldValue) (sessions : SessionsValue) (lines : List Numbered) (old new : Option (List ℕ)) (left : SessionsValue) : Type 0 where
  pub answers : List Answer
  pub answered : AreAnswered start sessions (map (λ line. line.command) lines) answers left
  pub written : Appends old new (text_of printed lines answers)

-- The command is done, and a front of what is printed of its answer is written.
pub record IsWrittenInPart (printed : Printed) (start : WorldValue) (sessions : SessionsValue) (line : Numbered) (old new : Option (List ℕ)) (left : SessionsValue) : Type 0 where
  pub text : List ℕ
  pub done : IsDone printed start sessions line text left
  pub written : AppendsFront old new text

-- the command is done, or was refused for want of memory
abbrev pub MayBeDone : WorldValue → SessionsValue → Command → SessionsValue → Type 0
MayBeDone start sessions command left = (answer : Answer) × MayAnswer start sessions command answer left

-- what a refusal leaves of the lines of the command that meets it: want of memory none; and a writer that fails a front of them, or none before a wait,
-- which is not begun where what was printed before it could not be handed on
abbrev pub LeavesOf : Refusal → Printed → WorldValue → SessionsValue → Numbered → Option (List ℕ) → Option (List ℕ) → SessionsValue → Type 0
LeavesOf refusal.Memory printed start sessions line old new left = Keeps old new × MayBeDone start sessions line.command left
LeavesOf refusal.Write printed start sessions line old new left =
    (IsWait line × Keeps old new × (left ≡ sessions)) ⊎ IsWrittenInPart printed start sessions line old new left
LeavesOf _ printed start sessions line old new left = ⊥

-- A command meets the refusal: those before it are done and their lines are written, and none after it is begun.
pub record IsStopped (refused : Refusal) (printed : Printed) (start : WorldValue) (sessions : SessionsValue) (lines : List Numbered) (old new : Option (List ℕ)) (left : SessionsValue) : Type 0 where
  pub before : List Numbered
  pub met : Numbered
  pub later : List Numbered
  pub whole : lines ≡ before ++ met ∷ later
  pub between : SessionsValue
  pub told : Option (List ℕ)
  pub done : AreDone printed start sessions before old told between
  pub leaves : LeavesOf refused printed start between met told new left

-- All commands of a script are done, from those sessions on to these, and what they print is written.
abbrev pub Runs : Printed → WorldValue → Result (List Numbered) ℕ → SessionsValue → Option (List ℕ) → Option (List ℕ) → SessionsValue → Type 0
Runs printed start (Ok lines) sessions old new left = AreDone printed start sessions lines old new left
Runs printed start (Err bad) sessions old new left = ⊥

-- nothing is written, and no command is begun
abbrev pub StaysAll : SessionsValue → Option (List ℕ) → Option (List ℕ) → SessionsValue → Type 0
StaysAll sessions old new left = Keeps old new × (left ≡ sessions)

-- What a refusal leaves. A bad line is the first, and after it, or where the script could not be read, nothing is written;
-- want of memory leaves either nothing, or the lines of the commands before the one that met it; and so does a writer that fails.
abbrev pub Stops : Printed → WorldValue → Result (List Numbered) ℕ → Refusal → SessionsValue → Option (List ℕ) → Option (List ℕ) → SessionsValue → Type 0
Stops printed start (Err bad) (refusal.BadCommand line) sessions old new left = (line ≡ bad) × StaysAll sessions old new left
Stops printed start (Err bad) refusal.Memory sessions old new left = StaysAll sessions old new left
Stops printed start script refusal.Read sessions old new left = StaysAll sessions old new left
Stops printed start (Ok lines) refusal.Memory sessions old new left = StaysAll sessions old new left ⊎ IsStopped refusal.Memory printed start sessions lines old new left
Stops printed start (Ok lines) refusal.Write sessions old new left = IsStopped refusal.Write printed start sessions lines old new left
Stops _ _ _ _ _ _ _ _ = ⊥

-- the same, from no session on to whatever sessions are left
abbrev pub IsRun : Printed → WorldValue → Result (List Numbered) ℕ → Option (List ℕ) → Option (List ℕ) → Type 0
IsRun printed start script old new = (left : SessionsValue) × Runs printed start script no_sessions old new left

abbrev pub Leaves : Printed → WorldValue → Result (List Numbered) ℕ → Refusal → Option (List ℕ) → Option (List ℕ) → Type 0
Leaves printed start script refused old new = (left : SessionsValue) × Stops printed start script refused no_sessions old new left

-- the refusals of a script, and what they leave whatever the reader tells: nothing before it was read and checked
abbrev pub EndsRunning : Refusal → Option (List ℕ) → Option (List ℕ) → Type 0
EndsRunning refusal.Read old new = Keeps old new
EndsRunning (refusal.BadCommand line) old new = Keeps old new
EndsRunning refusal.Write old new = ⊤
EndsRunning refusal.Memory old new = ⊤
EndsRunning _ old new = ⊥
