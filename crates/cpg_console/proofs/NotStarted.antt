-- what holds where a world or a cluster does not start
use Rattle.std.proofs.Common.{ℕ, List, Option, Some, None, inl, inr, sym, subst}
use Rattle.std.specs.Prelude.{IfSome}
use Rattle.cpg_cred.specs.Listed.{Listed}
use Rattle.cpg_cred.specs.declared.refusals.Refusal.TheVariants as refusal
use Rattle.cpg_accept.specs.Accepting.{whole_fault}
use Rattle.cpg_ring.specs.States.{IsSettings}
use Rattle.cpg_ring.specs.declared.settings.Settings.{Settings}
use Rattle.cpg_console.specs.declared.failures.Failure.{Failure}
use Rattle.cpg_console.specs.declared.failures.Failure.TheVariants.{BadWord, Fault}
use Rattle.cpg_console.specs.Starting.{IsNotStarted}

-- what holds after a wrong word, where memory was refused, and after settings out of their ranges
pub unless_started : (P : Option Listed → Failure → Type 0) (s : Settings) (list : Option Listed) (failure : Failure) → P None BadWord
    → ((l : Listed) → P (Some l) (Fault (whole_fault refusal.Memory))) → ((l : Listed) → ¬ IsSettings s → P (Some l) (Fault (whole_fault refusal.Range)))
    → IsNotStarted s list failure → P list failure
unless_started P s None failure word memory range h = subst (λ (f : Failure). P None f) (sym h) word
unless_started P s (Some l) failure word memory range h = elim h [
  | inl is ↦ subst (λ (f : Failure). P (Some l) f) (sym is) (memory l)
  | inr is ↦ subst (λ (f : Failure). P (Some l) f) (sym is.0) (range l is.1)
]

-- the same of each script, where it is known
pub unless_known : (P : List ℕ → Option Listed → Failure → Type 0) (known : Option (List ℕ)) (s : Settings) (list : Option Listed) (failure : Failure)
    → ((lines : List ℕ) → P lines None BadWord) → ((lines : List ℕ) (l : Listed) → P lines (Some l) (Fault (whole_fault refusal.Memory)))
    → ((lines : List ℕ) (l : Listed) → ¬ IsSettings s → P lines (Some l) (Fault (whole_fault refusal.Range))) → IsNotStarted s list failure → IfSome known (λ lines. P lines list failure)
unless_known P None s list failure word memory range h = tt
unless_known P (Some lines) s list failure word memory range h = unless_started (P lines) s list failure (word lines) (memory lines) (range lines) h
