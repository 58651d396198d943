-- a flush changes nothing of what is written
use Rattle.std.proofs.Common.{◌≡◌, ℕ, List, Bool, true, false, Option, Some, None, Result, Ok, Err, refl, sym, ap, subst}
use Rattle.std.specs.Prelude.{◌↔◌, OnOk, IfErr, IfSome}
use Rattle.std.specs.Io.KnownBytes.{Keeps}
use Rattle.std.proofs.KnownBytes.{Keeps-trans}
use Rattle.cpg_cred.specs.declared.refusals.Refusal.{Refusal}
use Rattle.cpg_cred.specs.declared.refusals.Refusal.TheVariants as refusal
use Rattle.cpg_text.specs.Written.{WritesLate}
use Rattle.cpg_console.specs.declared.failures.Failure.{Failure}
use Rattle.cpg_console.specs.declared.failures.Failure.TheVariants as failure
use Rattle.cpg_console.specs.declared.runs.Run.{Run}
use Rattle.cpg_console.specs.Runs.{FailsLate, HasWrongWord, Prints, Runs, failure_of, failure_told}

late_kept : (refused : Refusal) (a b c : Option (List ℕ)) → WritesLate refused a b → Keeps b c → WritesLate refused a c
late_kept refusal.Write a b c h k = tt
late_kept refusal.Memory a b c h k = tt
late_kept _ a b c h k = Keeps-trans a b c h k

-- what was printed and is told, after the flush
pub printed : (known : Option (List ℕ)) (run : Run) (done : Result (Unit {0}) Failure) (flushed : Bool) (end : Option Failure) (a b c : Option (List ℕ))
    → end ≡ failure_told flushed (failure_of done)
    → OnOk done (IfSome known (λ script. Prints run script None a b)) → IfErr done (λ end. IfSome known (λ script. Prints run script (Some end) a b)) → Keeps b c
    → IfSome known (λ script. Runs run script flushed end a c)
printed None run done flushed end a b c e h f k = tt
printed (Some script) run (Ok done) flushed end a b c e h f k = record { first = None; gathered = b; prints = h; kept = k; tells = e }
printed (Some script) run (Err first) flushed end a b c e h f k = record { first = Some first; gathered = b; prints = f; kept = k; tells = e }

told_late : (done : Result (Unit {0}) Failure) (flushed : Bool) (a b c : Option (List ℕ))
    → IfErr done (λ end. FailsLate end a b) → Keeps b c → IfSome (failure_told flushed (failure_of done)) (λ end. FailsLate end a c)
told_late (Err failure.BadWord) false a b c h k = Keeps-trans a b c h k
told_late (Err failure.BadWord) true a b c h k = Keeps-trans a b c h k
told_late (Err (failure.Missing what)) false a b c h k = Keeps-trans a b c h k
told_late (Err (failure.Missing what)) true a b c h k = Keeps-trans a b c h k
told_late (Err (failure.Fault fault)) false a b c h k = tt
told_late (Err (failure.Fault fault)) true a b c h k = late_kept fault.refusal a b c h k
told_late (Ok done) false a b c h k = tt
told_late (Ok done) true a b c h k = tt

pub printed_late : (done : Result (Unit {0}) Failure) (flushed : Bool) (end : Option Failure) (a b c : Option (List ℕ)) → end ≡ failure_told flushed (failure_of done)
    → IfErr done (λ end. FailsLate end a b) → Keeps b c → IfSome end (λ end. FailsLate end a c)
printed_late done flushed end a b c e h k =
    subst (λ (told : Option Failure). IfSome told (λ end. FailsLate end a c)) (sym e) (told_late done flushed a b c h k)

-- a wrong word is told whatever a flush does
pub word_stays : (P : Type 0) (flushed : Bool) (first end : Option Failure) → end ≡ failure_told flushed first
    → (first ≡ Some failure.BadWord) ↔ P → (end ≡ Some failure.BadWord) ↔ P
word_stays P flushed (Some failure.BadWord) end e h = ((λ is. h.0 refl), (λ wrong. e))
word_stays P flushed (Some (failure.Missing what)) end e h = ((λ is. absurd (cc)), (λ wrong. let same = h.1 wrong in absurd (cc)))
word_stays P true (Some (failure.Fault fault)) end e h = ((λ is. absurd (cc)), (λ wrong. let same = h.1 wrong in absurd (cc)))
word_stays P false (Some (failure.Fault fault)) end e h = ((λ is. absurd (cc)), (λ wrong. let same = h.1 wrong in absurd (cc)))
word_stays P true None end e h = ((λ is. absurd (cc)), (λ wrong. let same = h.1 wrong in absurd (cc)))
word_stays P false None end e h = ((λ is. absurd (cc)), (λ wrong. let same = h.1 wrong in absurd (cc)))

word_of : (done : Result (Unit {0}) Failure) → failure_of done ≡ Some failure.BadWord → done ≡ Err failure.BadWord
word_of (Err failure.BadWord) is = refl
word_of (Err (failure.Missing what)) is = absurd (cc)
word_of (Err (failure.Fault fault)) is = absurd (cc)
word_of (Ok done) is = absurd (cc)

pub word_told : (run : Run) (done : Result (Unit {0}) Failure) (flushed : Bool) (end : Option Failure) → end ≡ failure_told flushed (failure_of done)
    → (done ≡ Err failure.BadWord) ↔ HasWrongWord run → (end ≡ Some failure.BadWord) ↔ HasWrongWord run
word_told run done flushed end e h = word_stays (HasWrongWord run) flushed (failure_of done) end e ((λ is. h.0 (word_of done is)), (λ wrong. ap failure_of (h.1 wrong)))
