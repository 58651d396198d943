-- what a command printed, beside what is wanted of it
use Rattle.std.specs.Prelude.{ℕ, ◌+◌, Bool, true, false, List, [], ◌∷◌, length, drop, codes, Option, Some, None, if◌then◌else◌}
use Rattle.std.specs.Str.{bytes_eq}
use Rattle.cpg_text.specs.Lines.{lines_of, is_blank, trimmed}
use Rattle.cpg_text.specs.Words.{◌>>=◌, after_name}
use Rattle.cpg_play.specs.declared.walks.Went.{Went}
use Rattle.cpg_play.specs.declared.walks.Went.TheVariants.{Well, Otherwise, Bad}

-- What was printed and not compared with a wanted line yet, and the number of the last line that wanted one of it.
pub record PrintedValue : Type 0 where
  pub rest : List ℕ
  pub wanted : Option ℕ

-- the first of some lines
abbrev pub first_line : List (List ℕ) → List ℕ
first_line [] = []
first_line (line ∷ lines) = line

-- the next line of what is left, if there is one
abbrev pub next_line : List ℕ → Option (List ℕ)
next_line [] = None
next_line (byte ∷ rest) = Some (first_line (lines_of (byte ∷ rest)))

-- what is left behind the next line and its line feed
abbrev pub behind_line : List ℕ → List ℕ
behind_line rest = drop (length (first_line (lines_of rest)) + 1) rest

-- where lines were wanted of it, and some are left, the number of the last line that wanted one
abbrev pub unwanted_in : List ℕ → Option ℕ → Option ℕ
unwanted_in [] wanted = None
unwanted_in (byte ∷ rest) wanted = wanted

-- the text that is wanted behind `=>`, or that there is to be no line
abbrev pub wanted_behind : List ℕ → Option (Option (List ℕ))
wanted_behind [] = Some None
wanted_behind (byte ∷ text) = if is_blank byte then Some (Some (trimmed text)) else None

-- what a line wants of the next line that was printed, if it begins with `=>`
abbrev pub wanted_by : List ℕ → Option (Option (List ℕ))
wanted_by line = after_name (codes "=>") line >>= wanted_behind

-- the two lines are one, or both are none
abbrev pub are_same : Option (List ℕ) → Option (List ℕ) → Bool
are_same None None = true
are_same (Some one) (Some other) = bytes_eq one other
are_same _ _ = false

-- how a line went by whether all is as wanted
abbrev pub went_by : Bool → Went
went_by true = Well
went_by false = Otherwise

-- all was as wanted, and a line did not go otherwise
abbrev pub and_went : Bool → Went → Bool
and_went true Well = true
and_went true Bad = true
and_went _ _ = false
