-- what is told of a fault of a file of `cpgring admit`
use Rattle.std.specs.Prelude.{ℕ, List, [], codes, Bool, true, false, unwrap_or, Option, Some, None}
use Rattle.cpg_cred.specs.declared.refusals.Refusal.{Refusal}
use Rattle.cpg_cred.specs.declared.refusals.Refusal.TheVariants as refusal
use Rattle.cpg_text.specs.Lines.{lines_of, trimmed}
use Rattle.cpg_text.specs.Words.{◌>>=◌, cut_at}
use Rattle.cpg_accept.specs.declared.admit.texts.File.{File}
use Rattle.cpg_accept.specs.declared.admit.texts.File.TheVariants as file
use Rattle.cpg_hint.specs.Marks.{marked}
use Rattle.cpg_hint.specs.Parts.{colon_of, flaw_end, flaw_line, flaw_phrase, flaw_text, is_uid}
use Rattle.cpg_hint.specs.Places.{place_in}
use Rattle.cpg_hint.specs.Told.{line_at}

-- what is wanted of the name of a user, or of a group
abbrev pub name_expected : Bool → List ℕ
name_expected true = codes "VALUE: a number, or a NAME that the file of --names or --passwd has"
name_expected false = codes "VALUE: a number, or a NAME that the file of --names or --group has"

-- what is wanted in a line of a conf file: as in one of a conf part, but for what stands around it
abbrev pub conf_phrase : Refusal → List ℕ → List ℕ
conf_phrase refusal.Unclosed line = codes "a line } further on: this section is not closed before the file ends"
conf_phrase (refusal.UnknownName number) line = name_expected (is_uid (colon_of line) line)
conf_phrase refused line = flaw_phrase refused line

-- a line of accounts from its number on, which two fields stand before
abbrev pub from_number : List ℕ → Option (List ℕ)
from_number line = do
  named ← cut_at 58 line
  hidden ← cut_at 58 named.1
  Some hidden.1

-- the end of a trimmed line of accounts that a fault is of: its number, or all of the line
abbrev pub account_end : Refusal → List ℕ → List ℕ
account_end (refusal.BadValue number) line = unwrap_or (from_number line) line
account_end _ line = line

-- what is wanted in a line of accounts, of users or of groups
abbrev pub user_phrase : Refusal → List ℕ
user_phrase (refusal.BadValue number) = codes "UID: a number from 0 to 4294967295"
user_phrase _ = codes "a line NAME:PASSWORD:UID:GID:GECOS:DIRECTORY:SHELL"

abbrev pub group_phrase : Refusal → List ℕ
group_phrase (refusal.BadValue number) = codes "GID: a number from 0 to 4294967295"
group_phrase _ = codes "a line NAME:PASSWORD:GID:MEMBERS"

-- the line of that number, with a mark at the end that a fault is of
abbrev pub marked_end : ℕ → List ℕ → List ℕ → List ℕ → List ℕ
marked_end number line end phrase = marked number line (place_in line end) phrase

-- what is told of a line of a file
abbrev pub file_flaw : File → Refusal → ℕ → List ℕ → List ℕ
file_flaw (file.Conf index) refused number line = marked_end number line (flaw_end refused (trimmed line)) (conf_phrase refused (trimmed line))
file_flaw file.Names refused number line = flaw_text true refused number line
file_flaw file.Passwd refused number line = marked_end number line (account_end refused (trimmed line)) (user_phrase refused)
file_flaw file.Group refused number line = marked_end number line (account_end refused (trimmed line)) (group_phrase refused)

-- the same where the file has that line
abbrev pub file_flaw_by : File → Refusal → ℕ → Option (List ℕ) → List ℕ
file_flaw_by which refused number None = []
file_flaw_by which refused number (Some line) = file_flaw which refused number line

-- the same at the line where it is told, if it is told of one
abbrev pub file_flaw_at : File → Refusal → List (List ℕ) → Option ℕ → List ℕ
file_flaw_at which refused lines None = []
file_flaw_at which refused lines (Some number) = file_flaw_by which refused number (line_at number lines)

-- what is told beside a fault of a file of that text
abbrev pub file_hint : File → List ℕ → Refusal → List ℕ
file_hint which text refused = file_flaw_at which refused (lines_of text) (flaw_line refused (lines_of text))
