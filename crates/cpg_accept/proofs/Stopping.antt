-- parts that are refused
use Rattle.std.proofs.Common.{◌≡◌, ℕ, List, ◌∷◌, Option, Some, Result, Ok, Err, sym, ap, subst, inl, inr}
use Rattle.std.specs.Prelude.{◌⊎◌}
use Rattle.cpg_cred.specs.declared.refusals.Refusal.{Refusal}
use Rattle.cpg_conf.specs.Listed.{FailsBy}
use Rattle.cpg_conf.specs.Names.{next_number}
use Rattle.cpg_text.specs.declared.faults.Fault.{Fault}
use Rattle.cpg_accept.specs.declared.parts.Kind.{Kind}
use Rattle.cpg_accept.specs.declared.parts.Kind.TheVariants.{Names, Conf, Ask}
use Rattle.cpg_accept.specs.Accepting.{Admitted, MemoryAt, MemoryIn, all_taken, and_then, read_in, taken}
use Rattle.cpg_accept.specs.Parts.{Piece}
use Rattle.cpg_accept.specs.Steps.{RefusesPart, StopsAt, StopsIn}

-- what was not read of a names or conf part, as a fault of that part
pub refused_part : {A : Type 0} (part : ℕ) (make : A → Admitted) (read : Result A Refusal) (refused : Refusal)
    → FailsBy read refused → RefusesPart part (read_in (Some part) make read) (record { part = Some part; refusal = refused })
refused_part part make (Ok read) refused e = ap (λ r. record { part = Some part; refusal = r }) e
refused_part part make (Err fault) refused e = ap (λ r. record { part = Some part; refusal = r }) e

stop : (kind : Kind) (part : ℕ) (text : List ℕ) (made : Result Admitted Fault) (more : Admitted → Result Admitted Fault) (after : Admitted → Type 0) (fault : Fault)
    → StopsAt kind part text made fault → MemoryAt kind part text fault after made ⊎ (and_then made more ≡ Err fault)
stop Ask part text made more after fault (inl memory) = inl (inl memory)
stop Ask part text made more after fault (inr first) = inr (ap (λ m. and_then m more) first)
stop Names part text (Ok made) more after fault e = inl (inl e)
stop Names part text (Err first) more after fault e = inr (ap Err (sym e))
stop Conf part text (Ok made) more after fault e = inl (inl e)
stop Conf part text (Err first) more after fault e = inr (ap Err (sym e))

-- the first of the parts is refused
pub stops_here : (part : ℕ) (piece : Piece) (later : List Piece) (admitted : Admitted) (fault : Fault)
    → StopsAt piece.kind part piece.text (taken piece.kind part piece.line piece.text admitted) fault → StopsIn part (piece ∷ later) admitted fault
stops_here part piece later admitted fault h =
    stop piece.kind part piece.text (taken piece.kind part piece.line piece.text admitted) (all_taken (next_number part) later)
    (λ made. MemoryIn (next_number part) later made fault) fault h

-- memory is refused after a part that was taken
pub memory_after : (part : ℕ) (piece : Piece) (later : List Piece) (admitted made : Admitted) (fault : Fault)
    → taken piece.kind part piece.line piece.text admitted ≡ Ok made → MemoryIn (next_number part) later made fault → MemoryIn part (piece ∷ later) admitted fault
memory_after part piece later admitted made fault e h =
    subst (MemoryAt piece.kind part piece.text fault (λ more. MemoryIn (next_number part) later more fault)) (sym e) (inr h)

-- what stops the parts that are left stops all of them
pub stops_amid : (before left : List Piece) (part : ℕ) (old new : Admitted) (fault : Fault)
    → all_taken 1 before old ≡ all_taken part left new → (MemoryIn part left new fault → MemoryIn 1 before old fault)
    → StopsIn part left new fault → StopsIn 1 before old fault
stops_amid before left part old new fault same amid (inl memory) = inl (amid memory)
stops_amid before left part old new fault same amid (inr first) = inr (subst (λ made. made ≡ Err fault) (sym same) first)
