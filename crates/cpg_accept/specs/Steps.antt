-- steps of the reading and writing functions, which no contract of a public function cites
use Rattle.std.specs.Prelude.{◌≡◌, ◌⊎◌, ℕ, ◌+◌, List, length, [], ◌∷◌, ◌++◌, Option, Some, None, option_map, Result, Ok, Err}
use Rattle.std.specs.Borrow.{Bor}
use Rattle.std.specs.Io.KnownBytes.{Keeps}
use Rattle.cpg_cred.specs.declared.admission.Via.{Via}
use Rattle.cpg_cred.specs.declared.refusals.Refusal.{Refusal}
use Rattle.cpg_cred.specs.declared.refusals.Refusal.TheVariants.{BadCommand, Memory, Write}
use Rattle.cpg_text.specs.declared.faults.Fault.{Fault}
use Rattle.cpg_accept.specs.Accepting.{Admitted, MemoryIn, all_taken, whole_fault}
use Rattle.cpg_text.specs.Lines.{lines_left, lines_of}
use Rattle.cpg_text.specs.Streams.{AppendsFront}
use Rattle.cpg_conf.specs.Names.{next_number}
use Rattle.cpg_accept.specs.Asks.{HasAsk}
use Rattle.cpg_accept.specs.Parts.{Piece, parts_from, text_before}
use Rattle.cpg_accept.specs.declared.parts.Head.{Head}
use Rattle.cpg_accept.specs.declared.parts.Kind.{Kind}
use Rattle.cpg_accept.specs.declared.parts.Kind.TheVariants.{Ask}
use Rattle.cpg_accept.specs.declared.parts.Part.{Part}

-- the part that a view of it shows
abbrev pub part_seen : Part → Piece
part_seen part = record { kind = part.kind; line = part.line; text = part.text.now }

-- the lines after a head
abbrev pub lines_after : Head → List (List ℕ)
lines_after head = lines_left (option_map (λ after. after.now) head.after)

-- the parts from a head on
abbrev pub parts_of_head : Option Head → List Piece
parts_of_head None = []
parts_of_head (Some head) =
    record { kind = head.kind; line = head.line; text = text_before (lines_after head) } ∷ parts_from (next_number head.line) (lines_after head)

-- how many bytes a rest has, with the line feed before it
abbrev pub len_after : Option (Bor (List ℕ)) → ℕ
len_after None = 0
len_after (Some rest) = length rest.now + 1

-- answers, and then those of the lines after them
abbrev pub answers_with : List (Option Via) → Result (List (Option Via)) Refusal → Result (List (Option Via)) Refusal
answers_with answers (Ok later) = Ok (answers ++ later)
answers_with answers (Err fault) = Err fault

-- no command stands there; else the first is told
abbrev pub no_command : Option ℕ → Result (Unit {0}) Refusal
no_command None = Ok tt
no_command (Some line) = Err (BadCommand line)

-- a script makes those answers
abbrev pub AnswersAre : Result Admitted Fault → List (Option Via) → Type 0
AnswersAre (Ok admitted) answers = admitted.answers ≡ answers
AnswersAre (Err fault) answers = ⊥

-- a names or conf part is refused by its fault, where it has one, and else for want of memory
abbrev pub RefusesPart : ℕ → Result Admitted Fault → Fault → Type 0
RefusesPart part (Ok made) fault = fault ≡ record { part = Some part; refusal = Memory }
RefusesPart part (Err first) fault = fault ≡ first

-- why a part is refused; asks may be refused memory before their fault, where one was answered
abbrev pub StopsAt : Kind → ℕ → List ℕ → Result Admitted Fault → Fault → Type 0
StopsAt Ask part text made fault = ((fault ≡ whole_fault Memory) × HasAsk (lines_of text)) ⊎ (made ≡ Err fault)
StopsAt _ part text made fault = RefusesPart part made fault

-- why one of the parts is refused, the first of which has that number
abbrev pub StopsIn : ℕ → List Piece → Admitted → Fault → Type 0
StopsIn part parts admitted fault = MemoryIn part parts admitted fault ⊎ (all_taken part parts admitted ≡ Err fault)

-- what a refusal leaves of a text that is made whole before it is written
abbrev pub LeavesText : List ℕ → Refusal → Option (List ℕ) → Option (List ℕ) → Type 0
LeavesText text Write old new = AppendsFront old new text
LeavesText text Memory old new = Keeps old new
LeavesText text _ old new = ⊥
