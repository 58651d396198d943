-- what a conf text lists, and its faults
use Rattle.std.specs.Prelude.{◌≡◌, ℕ, ◌==◌, List, [], ◌∷◌, ◌++◌, length, map, codes, if◌then◌else◌, Option, Result, Ok, Err}
use Rattle.std.specs.Option.{ok_or}
use Rattle.std.specs.Str.{bytes_eq}
use Rattle.cpg_cred.specs.Listed.{Listed, with_listed}
use Rattle.cpg_cred.specs.declared.refusals.Refusal.{Refusal}
use Rattle.cpg_cred.specs.declared.refusals.Refusal.TheVariants.{Memory, BadLine, Unopened, Unclosed, BadItem, BadValue, UnknownName}
use Rattle.cpg_text.specs.Lines.{lines_of, trimmed}
use Rattle.cpg_text.specs.Numbers.{is_number}
use Rattle.cpg_conf.specs.declared.conf.Numbers.{Numbers}
use Rattle.cpg_conf.specs.Lines.{Line, Close, Key, Bad, line_of}
use Rattle.cpg_conf.specs.Names.{Known, number_of, made, value_on}
use Rattle.cpg_conf.specs.Sections.{opens, closes, depth, is_read, number_after}

abbrev pub nothing : Listed
nothing = record { users = []; groups = [] }

abbrev pub one_user : ℕ → Listed
one_user uid = record { users = uid ∷ []; groups = [] }

abbrev pub one_group : ℕ → Listed
one_group gid = record { users = []; groups = gid ∷ [] }

-- what the numbers that were collected list
abbrev pub numbers_listed : Numbers → Listed
numbers_listed numbers = record { users = (numbers.users).items; groups = (numbers.groups).items }

-- what was listed, and then more, users and groups apart
abbrev pub joined : Listed → Listed → Listed
joined list more = record { users = list.users ++ more.users; groups = list.groups ++ more.groups }

-- the number that a value stands for: its digits' own, or that of the name, if it is known
abbrev pub number_said : ℕ → List ℕ → Option ℕ → Result ℕ Refusal
number_said line value known =
    if length value == 0 then Err (BadValue line)
    else if is_number value then value_on line value
    else ok_or known (UnknownName line)

-- what a key that is read lists: `uid` a user, `gid` a group
abbrev pub key_said : Known → ℕ → List ℕ → List ℕ → Result Listed Refusal
key_said names line key value =
    if bytes_eq key (codes "uid") then made one_user (number_said line value (number_of names.users value))
    else if bytes_eq key (codes "gid") then made one_group (number_said line value (number_of names.groups value))
    else Err (BadItem line)

-- what a line lists, or its fault; the lines before it are given nearest first
abbrev pub line_said : Known → List Line → Line → Result Listed Refusal
line_said names before Bad = Err (BadLine (number_after before))
line_said names before Close = if depth before == 0 then Err (Unopened (number_after before)) else Ok nothing
line_said names before (Key key value) = if is_read before then key_said names (number_after before) key value else Ok nothing
line_said names before _ = Ok nothing

-- what was listed, and then more, unless there is a fault: the first one counts
abbrev pub and_then : Result Listed Refusal → Result Listed Refusal → Result Listed Refusal
and_then (Err fault) more = Err fault
and_then (Ok list) (Ok more) = Ok (joined list more)
and_then (Ok list) (Err fault) = Err fault

-- what lines list, or the fault of the first faulty one, else `Unclosed` where opens and closes differ in
-- number at the end; the lines before them are given nearest first
abbrev pub lines_said : Known → List Line → List Line → Result Listed Refusal
lines_said names before [] = if opens before == closes before then Ok nothing else Err Unclosed
lines_said names before (line ∷ later) = and_then (line_said names before line) (lines_said names (line ∷ before) later)

-- the users and groups that a conf text lists, in the order of its lines, or its fault
abbrev pub listed : Known → List ℕ → Result Listed Refusal
listed names text = lines_said names [] (map (λ line. line_of (trimmed line)) (lines_of text))

-- a refusal to read is the fault, where there is one, and else a want of memory
abbrev pub FailsBy : {A : Type 0} → Result A Refusal → Refusal → Type 0
FailsBy (Ok read) refusal = refusal ≡ Memory
FailsBy (Err fault) refusal = refusal ≡ fault

-- the list grew by what was listed, and there was no fault
abbrev pub Grows : Result Listed Refusal → Listed → Listed → Type 0
Grows (Ok more) old new = new ≡ with_listed old more
Grows (Err fault) old new = ⊥
