-- steps of the functions that read and answer
use Rattle.std.specs.Prelude.{ℕ, ◌≡◌, ◌+◌, ◌<◌, ◌⊎◌, Bool, true, false, List, [], ◌∷◌, ◌++◌, length, All, Option, None, Some, MatchOption, IfSome}
use Rattle.std.specs.Io.KnownBytes.{Keeps}
use Rattle.cpg_world_laws.specs.Worlds.{WorldValue}
use Rattle.cpg_text.specs.Lines.{lines_of, is_line_feed}
use Rattle.cpg_cluster.specs.Answers.{SessionsValue, no_sessions}
use Rattle.cpg_cluster.specs.Lines.{Printed}
use Rattle.cpg_cluster.specs.declared.shell.lines.TheConstants.{MOST_LINE}
use Rattle.cpg_cluster.specs.declared.shell.lines.Came.{Came}
use Rattle.cpg_cluster.specs.declared.shell.lines.Came.TheVariants.{Byte, End, Nothing}
use Rattle.cpg_cluster.specs.Shelled.{Outcome, AreShelled, sessions_after}

-- the bytes are what is left, if that is known, by that rule
abbrev pub LeftSo : Option (List ℕ) → (List ℕ → Type 0) → Type 0
LeftSo left Is = MatchOption left ⊥ Is

-- what a read of one byte tells of a reader's bytes
abbrev pub HasCome : Came → Option (List ℕ) → Option (List ℕ) → Type 0
HasCome (Byte byte) old new = IfSome old (λ bytes. LeftSo new (λ rest. bytes ≡ byte ∷ rest))
HasCome End old new = IfSome old (λ bytes. bytes ≡ [])
HasCome Nothing old new = Keeps old new

-- the kept line is the full one, or both are too long
abbrev pub StandsFor : List ℕ → List ℕ → Type 0
StandsFor kept full = (kept ≡ full) ⊎ ((MOST_LINE < length kept) × (MOST_LINE < length full))

-- the lines of a reader's bytes after the first: there are more exactly where a line feed ends the first
abbrev pub IsFirst : List ℕ → Bool → List ℕ → Option (List ℕ) → Type 0
IsFirst full true bytes new = LeftSo new (λ rest. lines_of bytes ≡ full ∷ lines_of rest)
IsFirst full false bytes new = lines_of bytes ≡ full ∷ []

-- The line that was read: the first of the reader's bytes, where it tells them.
pub record IsLine (kept : List ℕ) (more : Bool) (old new : Option (List ℕ)) : Type 0 where
  pub full : List ℕ
  pub stands : StandsFor kept full
  pub first : IfSome old (λ bytes. IsFirst full more bytes new)

-- A line is being read: these of its bytes came, none of which is a line feed.
pub record IsReading (kept : List ℕ) (old new : Option (List ℕ)) : Type 0 where
  pub full : List ℕ
  pub stands : StandsFor kept full
  pub whole : IfSome old (λ bytes. LeftSo new (λ rest. bytes ≡ full ++ rest))
  pub inside : All (λ byte. is_line_feed byte ≡ false) full

-- a line that is still being read, or is complete
abbrev pub IsSoFar : Option Bool → List ℕ → Option (List ℕ) → Option (List ℕ) → Type 0
IsSoFar None kept old new = IsReading kept old new
IsSoFar (Some more) kept old new = IsLine kept more old new

-- What a read came to was taken into a line that is being read.
pub record TakesIn (came : Came) (kept : List ℕ) (ended : Option Bool) (longer : List ℕ) : Type 0 where
  pub goes : (old mid new : Option (List ℕ)) → IsReading kept old mid → HasCome came mid new → IsSoFar ended longer old new

-- The lines so far were answered: that number is the next line's, and these are the sessions.
pub record AreShelledSo (form : Printed) (start : WorldValue) (nodes number : ℕ) (sessions : SessionsValue) (input left old new old_errors new_errors : Option (List ℕ)) : Type 0 where
  pub before : List (List ℕ)
  pub outcomes : List Outcome
  pub all : IfSome input (λ bytes. LeftSo left (λ rest. lines_of bytes ≡ before ++ lines_of rest))
  pub counted : number ≡ length before + 1
  pub now : sessions ≡ sessions_after no_sessions outcomes
  pub shelled : AreShelled form start nodes before outcomes old new old_errors new_errors
