-- accounts: which numbers the names of users and groups have, by texts of passwd(5) and of group(5) form
use Rattle.std.specs.Prelude.{ℕ, ◌==◌, ◌&&◌, nat_lt, List, [], ◌∷◌, length, count_by, if◌then◌else◌, Option, Some, None, Result, Ok, Err}
use Rattle.cpg_cred.specs.declared.refusals.Refusal.{Refusal}
use Rattle.cpg_cred.specs.declared.refusals.Refusal.TheVariants.{BadLine}
use Rattle.cpg_text.specs.Lines.{lines_of, trimmed, is_ignored}
use Rattle.cpg_text.specs.Words.{◌>>=◌, cut_at}
use Rattle.cpg_conf.specs.Names.{Known, Naming, Nothing, User, Group, made, value_on, next_number, naming_then, with_namings}
use Rattle.cpg_accept.specs.declared.admit.accounts.Book.{Book}
use Rattle.cpg_accept.specs.declared.admit.accounts.Book.TheVariants.{Users, Groups}

-- how many colons follow that behind the number: of a user three, GID:GECOS:DIRECTORY:SHELL, of a group none
abbrev pub colons_after : Book → ℕ
colons_after Users = 3
colons_after Groups = 0

-- the name and the number, where there is a name and so many fields follow
abbrev pub account_with : Book → List ℕ → List ℕ → List ℕ → Option (List ℕ × List ℕ)
account_with book name number rest =
    if nat_lt 0 (length name) && (count_by (λ byte. byte == 58) rest == colons_after book) then Some (name, number) else None

-- NAME:PASSWORD:NUMBER:REST
abbrev pub account_in : Book → List ℕ → Option (List ℕ × List ℕ)
account_in book line = do
  named ← cut_at 58 line
  hidden ← cut_at 58 named.1
  numbered ← cut_at 58 hidden.1
  account_with book named.0 numbered.0 numbered.1

-- the account is one of a user or of a group
abbrev pub naming : Book → List ℕ → ℕ → Naming
naming Users name number = User name number
naming Groups name number = Group name number

-- what an account's line says: a line of another shape is bad, and so is a value that is no number of 32 bits
abbrev pub account_said : Book → ℕ → Option (List ℕ × List ℕ) → Result Naming Refusal
account_said book line None = Err (BadLine line)
account_said book line (Some (name, number)) = made (naming book name) (value_on line number)

-- what a trimmed line of that number says
abbrev pub naming_at : Book → ℕ → List ℕ → Result Naming Refusal
naming_at book line text = if is_ignored text then Ok Nothing else account_said book line (account_in book text)

-- what lines say, the first of which has that number
abbrev pub namings_in : Book → ℕ → List (List ℕ) → Result (List Naming) Refusal
namings_in book line [] = Ok []
namings_in book line (text ∷ later) = naming_then (naming_at book line (trimmed text)) (namings_in book (next_number line) later)

-- the names with the accounts of a text, or the fault of its first faulty line
abbrev pub known_with : Book → Known → List ℕ → Result Known Refusal
known_with book names text = with_namings names (namings_in book 1 (lines_of text))
