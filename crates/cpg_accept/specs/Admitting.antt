-- whom the files let in, and of whom it is asked
use Rattle.std.specs.Borrow.{Bor}
use Rattle.std.specs.Prelude.{◌≡◌, ◌⊎◌, ℕ, ◌+◌, List, [], ◌∷◌, position, is_none, option_to_list, if◌then◌else◌, Option, Some, Result, Ok, Err}
use Rattle.std.specs.List.{flat_map}
use Rattle.cpg_cred.specs.Listed.{Listed}
use Rattle.cpg_cred.specs.declared.credentials.Cred.{Cred}
use Rattle.cpg_cred.specs.declared.refusals.Refusal.{Refusal}
use Rattle.cpg_cred.specs.declared.refusals.Refusal.TheVariants.{Memory}
use Rattle.cpg_text.specs.Numbers.{is_number}
use Rattle.cpg_text.specs.Words.{◌>>=◌, cut_at, u32_of}
use Rattle.cpg_conf.specs.Listed.{joined, listed}
use Rattle.cpg_conf.specs.Names.{Known, no_names, known_of, number_of}
use Rattle.cpg_accept.specs.Accounts.{known_with}
use Rattle.cpg_accept.specs.declared.admit.accounts.Book.TheVariants.{Users, Groups}
use Rattle.cpg_accept.specs.declared.admit.texts.AdmitFault.{AdmitFault}
use Rattle.cpg_accept.specs.declared.admit.texts.File.{File}
use Rattle.cpg_accept.specs.declared.admit.texts.File.TheVariants.{Conf, Names, Passwd, Group}
use Rattle.cpg_accept.specs.declared.admit.texts.NamedText.{NamedText}
use Rattle.cpg_accept.specs.declared.admit.texts.NamesFrom.{NamesFrom}
use Rattle.cpg_accept.specs.declared.admit.texts.NamesFrom.TheVariants.{Nowhere, Text, Accounts}

-- what was read of a file, or its fault
abbrev pub read_in : {A : Type 0} → File → Result A Refusal → Result A AdmitFault
read_in file (Ok read) = Ok read
read_in file (Err refused) = Err (record { file = file; refusal = refused })

-- and then, unless there is a fault: the first one counts
abbrev pub and_then : {A B : Type 0} → Result A AdmitFault → (A → Result B AdmitFault) → Result B AdmitFault
and_then (Ok read) more = more read
and_then (Err fault) more = Err fault

-- the names of accounts: those of users, and then those of groups
abbrev pub known_in : List ℕ → List ℕ → Result Known AdmitFault
known_in passwd group = and_then (read_in Passwd (known_with Users no_names passwd)) (λ names. read_in Group (known_with Groups names group))

-- the names that are told
abbrev pub known_by : NamesFrom → Result Known AdmitFault
known_by Nowhere = Ok no_names
known_by (Text text) = read_in Names (known_of text.now)
known_by (Accounts passwd group) = known_in passwd.now group.now

-- a list, and behind it what a file lists, unless that has a fault
abbrev pub with_listed_by : Listed → Result Listed AdmitFault → Result Listed AdmitFault
with_listed_by list more = and_then more (λ read. Ok (joined list read))

-- a list, and behind it what conf files list by those names, the first of which has that index: the first fault counts
abbrev pub listed_onto : Known → ℕ → List NamedText → Listed → Result Listed AdmitFault
listed_onto names index [] list = Ok list
listed_onto names index (conf ∷ later) list =
    and_then (with_listed_by list (read_in (Conf index) (listed names conf.text.now))) (listed_onto names (index + 1) later)

-- why nothing is read: the first fault, or want of memory
abbrev pub Fails : {A : Type 0} → Result A AdmitFault → AdmitFault → Type 0
Fails read fault = (read ≡ Err fault) ⊎ (fault.refusal ≡ Memory)

-- the number that a word says: its digits' own, or that of the name
abbrev pub number_said : List (List ℕ × ℕ) → List ℕ → Option ℕ
number_said table word = if is_number word then u32_of word else number_of table word

-- the credentials of UID:GID, each a number or a name
abbrev pub cred_named : Known → List ℕ → Option Cred
cred_named names word = do
  parts ← cut_at 58 word
  uid ← number_said names.users parts.0
  gid ← number_said names.groups parts.1
  Some (record { uid = uid; gid = gid })

-- where the first word stands that asks of nobody, from 0
abbrev pub first_wrong_ask : Known → List (Bor (List ℕ)) → Option ℕ
first_wrong_ask names words = position (λ word. is_none (cred_named names word.now)) words

-- the credentials of the words that ask of somebody
abbrev pub asks_in : Known → List (Bor (List ℕ)) → List Cred
asks_in names words = flat_map (λ word. option_to_list (cred_named names word.now)) words
