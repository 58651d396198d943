-- what a script that checks itself does, line by line
use Rattle.std.specs.Prelude.{◌≡◌, ℕ, Bool, true, false, ◌&&◌, List, [], ◌∷◌, Option, Some, None, is_none}
use Rattle.std.specs.Io.KnownBytes.{Appends, Keeps}
use Rattle.cpg_text.specs.Lines.{lines_of, trimmed, is_ignored}
use Rattle.cpg_conf.specs.Names.{next_number}
use Rattle.cpg_play.specs.Checking.{PrintedValue, are_same, behind_line, next_line, unwanted_in, wanted_by}

-- How far a script came: who does its lines, what the last command printed and no line was wanted of yet, all that was
-- written, and whether all was as wanted.
pub record Course (P : Type 0) : Type 0 where
  pub player : P
  pub printed : PrintedValue
  pub written : Option (List ℕ)
  pub wanted : Bool

-- what a line does by what it says: whether it says something, and what that prints
abbrev pub Does : Type 0 → Type 1
Does P = P → List ℕ → Bool → List ℕ → P → Type 0

-- no more was printed than lines wanted of it, where they wanted something
abbrev pub none_unwanted : PrintedValue → Bool
none_unwanted printed = is_none (unwanted_in printed.rest printed.wanted)

-- A line did its command: what that printed was written, and is what the next lines are compared with.
pub record IsCommanded (P : Type 0) (does : Does P) (line : List ℕ) (old new : Course P) : Type 0 where
  pub done : does old.player line true new.printed.rest new.player
  pub fresh : new.printed.wanted ≡ None
  pub written : Appends old.written new.written new.printed.rest
  pub wanted : new.wanted ≡ (old.wanted && none_unwanted old.printed)

module _ {P : Type 0} where
  -- the line of that number wanted the next printed line to be that, or none to be there
  abbrev pub compared : ℕ → Option (List ℕ) → Course P → Course P
  compared number wanted old = record {
    player = old.player;
    printed = record { rest = behind_line old.printed.rest; wanted = Some number };
    written = old.written;
    wanted = old.wanted && are_same (next_line old.printed.rest) wanted;
  }

  -- a line by whether it is ignored, and by what it wants
  abbrev pub IsPlayedBy : Does P → ℕ → List ℕ → Bool → Option (Option (List ℕ)) → Course P → Course P → Type 0
  IsPlayedBy does number line true wants old new = new ≡ old
  IsPlayedBy does number line false (Some wanted) old new = new ≡ compared number wanted old
  IsPlayedBy does number line false None old new = IsCommanded P does line old new

  -- what a trimmed line of that number does
  abbrev pub IsLinePlayed : Does P → ℕ → List ℕ → Course P → Course P → Type 0
  IsLinePlayed does number line old new = IsPlayedBy does number line (is_ignored line) (wanted_by line) old new

  -- what lines do one after the other, the first of which has that number
  abbrev pub ArePlayed : Does P → ℕ → List (List ℕ) → Course P → Course P → Type 0
  ArePlayed does number [] old new = new ≡ old
  ArePlayed does number (line ∷ lines) old new =
      (amid : Course P) × IsLinePlayed does number (trimmed line) old amid × ArePlayed does (next_number number) lines amid new

  -- before the first line
  abbrev pub begun : P → Option (List ℕ) → Course P
  begun player written = record { player = player; printed = record { rest = []; wanted = None }; written = written; wanted = true }

  -- A script's lines were done by a player, who then is the other; what was written was that, and then this; and all was as
  -- wanted, or was not.
  abbrev pub IsScriptPlayed : Does P → List ℕ → P → P → Option (List ℕ) → Option (List ℕ) → Bool → Type 0
  IsScriptPlayed does script player other before after wanted =
      (last : Course P) × ArePlayed does 1 (lines_of script) (begun player before) last
      × (last.player ≡ other) × Keeps last.written after × (wanted ≡ (last.wanted && none_unwanted last.printed))
