-- what is printed of a script of names, conf texts and asks, and what its faults leave
use Rattle.std.specs.Prelude.{◌≡◌, ◌⊎◌, ℕ, List, [], ◌∷◌, ◌++◌, if◌then◌else◌, Option, Some, None, Result, Ok, Err}
use Rattle.std.specs.List.{flat_map}
use Rattle.std.specs.Io.KnownBytes.{Appends, Keeps}
use Rattle.cpg_cred.specs.Listed.{Listed, with_listed}
use Rattle.cpg_cred.specs.declared.admission.Via.{Via}
use Rattle.cpg_cred.specs.declared.refusals.Refusal.{Refusal}
use Rattle.cpg_cred.specs.declared.refusals.Refusal.TheVariants as refusal
use Rattle.cpg_text.specs.Lines.{lines_of, trimmed, is_ignored}
use Rattle.cpg_text.specs.Streams.{AppendsFront}
use Rattle.cpg_conf.specs.Listed.{listed}
use Rattle.cpg_conf.specs.Names.{Known, no_names, known_of, next_number}
use Rattle.cpg_text.specs.declared.faults.Fault.{Fault}
use Rattle.cpg_accept.specs.Asks.{HasAsk, answers_from}
use Rattle.cpg_accept.specs.Parts.{Piece, parts_from, text_before}
use Rattle.cpg_accept.specs.declared.parts.Kind.{Kind}
use Rattle.cpg_accept.specs.declared.parts.Kind.TheVariants.{Names, Conf, Ask}

-- what the parts before have made: the names, the list, and the answers
pub record Admitted : Type 0 where
  pub names : Known
  pub list : Listed
  pub answers : List (Option Via)

-- no names, nobody listed, nothing asked
abbrev pub nobody : Admitted
nobody = record { names = no_names; list = record { users = []; groups = [] }; answers = [] }

-- what is made of what was read, or its fault as one of a part
abbrev pub read_in : {A : Type 0} → Option ℕ → (A → Admitted) → Result A Refusal → Result Admitted Fault
read_in part make (Ok read) = Ok (make read)
read_in part make (Err refusal) = Err (record { part = part; refusal = refusal })

-- a names part makes the names anew, a conf part adds to the list, and an ask part is answered by the list
abbrev pub taken : Kind → ℕ → ℕ → List ℕ → Admitted → Result Admitted Fault
taken Names part line text admitted = read_in (Some part) (λ names. record admitted { names = names }) (known_of text)
taken Conf part line text admitted = read_in (Some part) (λ more. record admitted { list = with_listed admitted.list more }) (listed admitted.names text)
taken Ask part line text admitted =
    read_in None (λ answers. record admitted { answers = admitted.answers ++ answers }) (answers_from admitted.list (next_number line) (lines_of text))

-- and then, unless there is a fault: the first one counts
abbrev pub and_then : Result Admitted Fault → (Admitted → Result Admitted Fault) → Result Admitted Fault
and_then (Ok admitted) more = more admitted
and_then (Err fault) more = Err fault

-- what parts make, the first of which has that number
abbrev pub all_taken : ℕ → List Piece → Admitted → Result Admitted Fault
all_taken part [] admitted = Ok admitted
all_taken part (piece ∷ later) admitted = and_then (taken piece.kind part piece.line piece.text admitted) (all_taken (next_number part) later)

-- the number of the first line that is not ignored, the first line having that number
abbrev pub first_command : ℕ → List (List ℕ) → Option ℕ
first_command line [] = None
first_command line (text ∷ later) = if is_ignored (trimmed text) then first_command (next_number line) later else Some line

-- a fault of the script as a whole
abbrev pub whole_fault : Refusal → Fault
whole_fault refused = record { part = None; refusal = refused }

-- what a script makes, unless a command stands before its first part
abbrev pub taken_after : Option ℕ → List Piece → Result Admitted Fault
taken_after (Some line) parts = Err (whole_fault (refusal.BadCommand line))
taken_after None parts = all_taken 1 parts nobody

-- what the parts of a script make, in order, or its first fault
abbrev pub admitted_by : List ℕ → Result Admitted Fault
admitted_by script = taken_after (first_command 1 (lines_of (text_before (lines_of script)))) (parts_from 1 (lines_of script))

-- the text of answers, each of which is told so
abbrev pub answers_told : (Option Via → List ℕ) → List (Option Via) → List ℕ
answers_told told answers = flat_map told answers

-- all is written where the script has no fault
abbrev pub IsWritten : (Option Via → List ℕ) → Result Admitted Fault → Option (List ℕ) → Option (List ℕ) → Type 0
IsWritten told (Ok admitted) old new = Appends old new (answers_told told admitted.answers)
IsWritten told (Err fault) old new = ⊥

-- a front of the text is written where a write failed
abbrev pub LeavesFront : (Option Via → List ℕ) → Result Admitted Fault → Option (List ℕ) → Option (List ℕ) → Type 0
LeavesFront told (Ok admitted) old new = AppendsFront old new (answers_told told admitted.answers)
LeavesFront told (Err fault) old new = ⊥

-- memory was refused to a names or conf part that has no fault: it is told with the part's number
abbrev pub IsMemoryOf : ℕ → Fault → Result Admitted Fault → Type 0
IsMemoryOf part fault (Ok made) = fault ≡ record { part = Some part; refusal = refusal.Memory }
IsMemoryOf part fault (Err first) = ⊥

-- memory was refused to a part: to asks, where one was answered before any fault of theirs, and told with no number
abbrev pub IsMemoryAt : Kind → ℕ → List ℕ → Fault → Result Admitted Fault → Type 0
IsMemoryAt Ask part text fault made = (fault ≡ whole_fault refusal.Memory) × HasAsk (lines_of text)
IsMemoryAt Names part text fault made = IsMemoryOf part fault made
IsMemoryAt Conf part text fault made = IsMemoryOf part fault made

-- something is so of what a part made, where it has no fault
abbrev pub IsAfter : (Admitted → Type 0) → Result Admitted Fault → Type 0
IsAfter after (Ok made) = after made
IsAfter after (Err first) = ⊥

-- memory was refused to a part, or after it where it has no fault
abbrev pub MemoryAt : Kind → ℕ → List ℕ → Fault → (Admitted → Type 0) → Result Admitted Fault → Type 0
MemoryAt kind part text fault after made = IsMemoryAt kind part text fault made ⊎ IsAfter after made

-- memory was refused to one of the parts, the first of which has that number, and no part before it has a fault
abbrev pub MemoryIn : ℕ → List Piece → Admitted → Fault → Type 0
MemoryIn part [] admitted fault = ⊥
MemoryIn part (piece ∷ later) admitted fault =
    MemoryAt piece.kind part piece.text fault (λ made. MemoryIn (next_number part) later made fault) (taken piece.kind part piece.line piece.text admitted)

-- and no command stands before the first part
abbrev pub MemoryAfter : Option ℕ → List Piece → Fault → Type 0
MemoryAfter (Some line) parts fault = ⊥
MemoryAfter None parts fault = MemoryIn 1 parts nobody fault

-- memory was refused to a part of the script
abbrev pub LacksMemory : List ℕ → Fault → Type 0
LacksMemory script fault = MemoryAfter (first_command 1 (lines_of (text_before (lines_of script)))) (parts_from 1 (lines_of script)) fault

-- why a script that was read ends with a fault, and what is left written then: a write failed, memory was refused to
-- the text, or to a part before any fault, or the fault is the script's first
abbrev pub EndsRead : (Option Via → List ℕ) → List ℕ → Fault → Option (List ℕ) → Option (List ℕ) → Type 0
EndsRead told script fault old new =
    ((fault ≡ whole_fault refusal.Write) × LeavesFront told (admitted_by script) old new)
    ⊎ ((((fault ≡ whole_fault refusal.Memory) ⊎ LacksMemory script fault) × Keeps old new)
    ⊎ ((admitted_by script ≡ Err fault) × Keeps old new))

-- or it could not be read
abbrev pub Ends : (Option Via → List ℕ) → List ℕ → Fault → Option (List ℕ) → Option (List ℕ) → Type 0
Ends told script fault old new = ((fault ≡ whole_fault refusal.Read) × Keeps old new) ⊎ EndsRead told script fault old new
