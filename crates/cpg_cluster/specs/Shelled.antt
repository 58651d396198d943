-- what a shell prints and tells of the lines that it reads, and what its faults leave
use Rattle.std.specs.Prelude.{ℕ, ◌≡◌, ◌+◌, ⊤, List, [], ◌∷◌, ◌++◌, length, Option, IfSome}
use Rattle.std.specs.List.{flat_map}
use Rattle.std.specs.Io.KnownBytes.{Appends, Keeps}
use Rattle.cpg_world_laws.specs.Worlds.{WorldValue}
use Rattle.cpg_cred.specs.declared.refusals.Refusal.{Refusal}
use Rattle.cpg_cred.specs.declared.refusals.Refusal.TheVariants as refusal
use Rattle.cpg_text.specs.Lines.{lines_of}
use Rattle.cpg_text.specs.Streams.{AppendsFront}
use Rattle.cpg_cluster.specs.Answers.{SessionsValue, no_sessions}
use Rattle.cpg_cluster.specs.Lines.{Printed}
use Rattle.cpg_cluster.specs.Running.{IsDone}
use Rattle.cpg_cluster.specs.Scripts.{numbered}
use Rattle.cpg_cluster.specs.declared.shell.typed.Typed.{Typed}
use Rattle.cpg_cluster.specs.declared.shell.typed.Typed.TheVariants.{Nothing, Help, Command, Bad}
use Rattle.cpg_cluster.specs.Typed.{typed_of, bad_line, help_text}

-- What a line came to: what was printed and told of it, and the sessions after it.
pub record Outcome : Type 0 where
  pub printed : List ℕ
  pub told : List ℕ
  pub left : SessionsValue

-- What a line of that number may come to over nodes that accept by that start and the sessions that it meets: a command is done as in a script, `help`
-- prints the commands, a bad line is told, and whatever else is typed changes and prints nothing.
abbrev pub MayCome : Printed → WorldValue → SessionsValue → ℕ → Typed → Outcome → Type 0
MayCome form start old number (Command command) came = IsDone form start old (numbered number command) came.printed came.left × (came.told ≡ [])
MayCome form start old number Help came = (came.printed ≡ help_text) × (came.told ≡ []) × (came.left ≡ old)
MayCome form start old number Bad came = (came.printed ≡ []) × (came.told ≡ bad_line number) × (came.left ≡ old)
MayCome form start old number Nothing came = (came.printed ≡ []) × (came.told ≡ []) × (came.left ≡ old)

-- what lines may come to, one after the other, the first of which has that number
abbrev pub MayAllCome : Printed → WorldValue → ℕ → SessionsValue → ℕ → List (List ℕ) → List Outcome → Type 0
MayAllCome form start nodes old number [] [] = ⊤
MayAllCome form start nodes old number (line ∷ lines) (came ∷ later) =
    MayCome form start old number (typed_of nodes line) came × MayAllCome form start nodes came.left (number + 1) lines later
MayAllCome form start nodes old number _ _ = ⊥

-- all that is printed of lines
abbrev pub printed_of : List Outcome → List ℕ
printed_of outcomes = flat_map (λ came. came.printed) outcomes

-- and all that is told
abbrev pub told_of : List Outcome → List ℕ
told_of outcomes = flat_map (λ came. came.told) outcomes

-- the sessions after lines
abbrev pub sessions_after : SessionsValue → List Outcome → SessionsValue
sessions_after old [] = old
sessions_after old (came ∷ later) = sessions_after came.left later

-- The lines, from the first and from no session on, came to this, and what they print and tell is written.
pub record AreShelled (form : Printed) (start : WorldValue) (nodes : ℕ) (lines : List (List ℕ)) (outcomes : List Outcome) (old new old_errors new_errors : Option (List ℕ)) : Type 0 where
  pub came : MayAllCome form start nodes no_sessions 1 lines outcomes
  pub written : Appends old new (printed_of outcomes)
  pub told : Appends old_errors new_errors (told_of outcomes)

-- All lines of the input were answered: those of the reader's bytes, where it tells them.
pub record IsShelled (form : Printed) (start : WorldValue) (nodes : ℕ) (input : Option (List ℕ)) (old new old_errors new_errors : Option (List ℕ)) : Type 0 where
  pub lines : List (List ℕ)
  pub outcomes : List Outcome
  pub all : IfSome input (λ bytes. lines ≡ lines_of bytes)
  pub shelled : AreShelled form start nodes lines outcomes old new old_errors new_errors

-- The line came to this, and a front of what it prints and of what it tells is written.
pub record IsShelledInPart (form : Printed) (start : WorldValue) (nodes : ℕ) (sessions : SessionsValue) (number : ℕ) (lines : List (List ℕ)) (old new old_errors new_errors : Option (List ℕ)) : Type 0 where
  pub line : List ℕ
  pub later : List (List ℕ)
  pub first : lines ≡ line ∷ later
  pub outcome : Outcome
  pub came : MayCome form start sessions number (typed_of nodes line) outcome
  pub written : AppendsFront old new outcome.printed
  pub told : AppendsFront old_errors new_errors outcome.told

-- what a fault leaves of the line that meets it, the first of those: nothing where it could not be read or for want of memory, and else a front
abbrev pub LeavesLine : Refusal → Printed → WorldValue → ℕ → SessionsValue → ℕ → List (List ℕ) → Option (List ℕ) → Option (List ℕ) → Option (List ℕ) → Option (List ℕ) → Type 0
LeavesLine refusal.Read form start nodes sessions number lines old new old_errors new_errors = Keeps old new × Keeps old_errors new_errors
LeavesLine refusal.Memory form start nodes sessions number lines old new old_errors new_errors = Keeps old new × Keeps old_errors new_errors
LeavesLine refusal.Write form start nodes sessions number lines old new old_errors new_errors = IsShelledInPart form start nodes sessions number lines old new old_errors new_errors
LeavesLine _ form start nodes sessions number lines old new old_errors new_errors = ⊥

-- A fault ended the shell: the lines before the one that met it were answered, and none after it was.
pub record IsEnded (refused : Refusal) (form : Printed) (start : WorldValue) (nodes : ℕ) (input : Option (List ℕ)) (old new old_errors new_errors : Option (List ℕ)) : Type 0 where
  pub before : List (List ℕ)
  pub later : List (List ℕ)
  pub outcomes : List Outcome
  pub all : IfSome input (λ bytes. lines_of bytes ≡ before ++ later)
  pub middle : Option (List ℕ)
  pub middle_errors : Option (List ℕ)
  pub shelled : AreShelled form start nodes before outcomes old middle old_errors middle_errors
  pub left : LeavesLine refused form start nodes (sessions_after no_sessions outcomes) (length before + 1) later middle new middle_errors new_errors
