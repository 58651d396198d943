-- the filter that the options of `judge` give
use Rattle.std.specs.Prelude.{ℕ, ◌≡◌, ◌==◌, ◌||◌, ◌⊎◌, Bool, is_some, nat_le, List, codes, length, if◌then◌else◌, Option, Some, None, option_map}
use Rattle.std.specs.Str.{bytes_eq}
use Rattle.clap.specs.declared.parser.matches.Found.{Found}
use Rattle.clap.specs.Words.{first_value}
use Rattle.cpg_text.specs.Numbers.{number_in}
use Rattle.cpg_text.specs.Words.{◌>>=◌, after_name, cut_at}
use Rattle.cpg_entry.specs.Names.{is_name}
use Rattle.cpg_print.specs.Entries.{conn_of_word}
use Rattle.cpg_judge.specs.declared.filter.filters.Filter.{Filter}
use Rattle.cpg_judge.specs.declared.filter.filters.Only.{Only}
use Rattle.cpg_judge.specs.declared.filter.filters.Only.TheVariants.{Denied, Verdicts, Messages, Changes, Rules}

-- the kind of that name
abbrev pub kind_named : List ℕ → Option Only
kind_named word =
    if bytes_eq word (codes "denied") then Some Denied
    else if bytes_eq word (codes "verdicts") then Some Verdicts
    else if bytes_eq word (codes "messages") then Some Messages
    else if bytes_eq word (codes "changes") then Some Changes
    else if bytes_eq word (codes "rules") then Some Rules
    else None

-- the group of that name, where it is one
abbrev pub group_named : List ℕ → Option (List ℕ)
group_named word = if is_name word then Some word else None

-- what a word says, where one is given
abbrev pub read_given : {A : Type 0} → (List ℕ → Option A) → Option (List ℕ) → Option (Option A)
read_given read None = Some None
read_given read (Some word) = option_map Some (read word)

-- a place, or the usual one where the word is empty
abbrev pub bound_of : ℕ → List ℕ → Option ℕ
bound_of usual word = if length word == 0 then Some usual else number_in 1 4294967295 word

-- the places from one to another; from the first or to the last where they are left out
abbrev pub span_of : List ℕ → List ℕ → Option (ℕ × ℕ)
span_of first last = do
  low ← bound_of 1 first
  high ← bound_of 4294967295 last
  Some (low, high)

-- one place, or what stands around two dots
abbrev pub places_in : List ℕ → Option (List ℕ × List ℕ) → Option (ℕ × ℕ)
places_in word None = option_map (λ place. (place, place)) (number_in 1 4294967295 word)
places_in word (Some parts) = after_name (codes ".") parts.1 >>= span_of parts.0

-- A..B, A.., ..B or A
abbrev pub places_named : List ℕ → Option (ℕ × ℕ)
places_named word = places_in word (cut_at 46 word)

-- the places that are asked for: all, where none are
abbrev pub places_given : Option (List ℕ) → Option (ℕ × ℕ)
places_given None = Some (1, 4294967295)
places_given (Some word) = places_named word

-- the first and the last row, where the first is not behind the last
abbrev pub in_order : ℕ × ℕ → Option (ℕ × ℕ)
in_order rows = if nat_le rows.0 rows.1 then Some rows else None

-- the rows of a picture: A..B, A.., ..B or A
abbrev pub rows_named : List ℕ → Option (ℕ × ℕ)
rows_named word = places_named word >>= in_order

-- the rows that are asked for: all, where none are
abbrev pub rows_given : Option (List ℕ) → Option (ℕ × ℕ)
rows_given word = places_given word >>= in_order

-- one of the options was used
abbrev pub is_filtered : Found → Bool
is_filtered found =
    is_some (first_value found (codes "only")) || is_some (first_value found (codes "group"))
    || is_some (first_value found (codes "connection")) || is_some (first_value found (codes "places"))

-- the filter is the one that the options' words say
pub record IsFilterGiven (found : Found) (filter : Filter) : Type 0 where
  pub only : read_given kind_named (first_value found (codes "only")) ≡ Some filter.only
  pub group : read_given group_named (first_value found (codes "group")) ≡ Some (option_map (λ name. name.now) filter.group)
  pub conn : read_given conn_of_word (first_value found (codes "connection")) ≡ Some filter.conn
  pub places : places_given (first_value found (codes "places")) ≡ Some (filter.first, filter.last)

-- the word of one of the options says nothing
abbrev pub IsBadFilter : Found → Type 0
IsBadFilter found =
    (read_given kind_named (first_value found (codes "only")) ≡ None) ⊎ (read_given group_named (first_value found (codes "group")) ≡ None)
    ⊎ (read_given conn_of_word (first_value found (codes "connection")) ≡ None) ⊎ (places_given (first_value found (codes "places")) ≡ None)
