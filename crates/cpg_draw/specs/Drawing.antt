-- how drawing ends, and what it leaves; the letters and shapes are in no definition
use Rattle.std.specs.Prelude.{ℕ, ◌≡◌, ⊤, List, Option, Result, Ok, Err}
use Rattle.std.specs.Io.KnownBytes.{Appends, Keeps}
use Rattle.cpg_cred.specs.declared.refusals.Refusal.{Refusal}
use Rattle.cpg_cred.specs.declared.refusals.Refusal.TheVariants as refusal
use Rattle.cpg_text.specs.Streams.{AppendsFront}
use Rattle.cpg_step.specs.declared.commands.Command.{Command}

-- what was written before stays, and something may stand behind it
abbrev pub Grows : Option (List ℕ) → Option (List ℕ) → Type 0
Grows old new = (text : List ℕ) × Appends old new text

-- a picture is written of a script without bad lines
abbrev pub IsDrawn : Result (List Command) ℕ → Option (List ℕ) → Option (List ℕ) → Type 0
IsDrawn (Ok commands) old new = Grows old new
IsDrawn (Err line) old new = ⊥

-- What a refusal leaves: nothing; only a writer that fails may have taken some. A bad line is the first.
abbrev pub Leaves : Result (List Command) ℕ → Refusal → Option (List ℕ) → Option (List ℕ) → Type 0
Leaves (Err bad) (refusal.BadCommand line) old new = (line ≡ bad) × Keeps old new
Leaves script refusal.Read old new = Keeps old new
Leaves script refusal.Memory old new = Keeps old new
Leaves (Ok commands) refusal.Write old new = (text : List ℕ) × AppendsFront old new text
Leaves _ _ old new = ⊥

-- the refusals, and what they leave whatever the reader tells: nothing before the picture is whole
abbrev pub EndsDrawing : Refusal → Option (List ℕ) → Option (List ℕ) → Type 0
EndsDrawing refusal.Read old new = Keeps old new
EndsDrawing (refusal.BadCommand line) old new = Keeps old new
EndsDrawing refusal.Memory old new = Keeps old new
EndsDrawing refusal.Write old new = ⊤
EndsDrawing _ old new = ⊥
