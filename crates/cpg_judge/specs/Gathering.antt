-- lines that are gathered and written many at a time
use Rattle.std.specs.Prelude.{ℕ, ◌≡◌, List, ◌++◌, Option, Result, OnOk, IfErr}
use Rattle.std.specs.List.{concat}
use Rattle.std.specs.Io.KnownBytes.{Appends}
use Rattle.cpg_cred.specs.declared.refusals.Refusal.{Refusal}
use Rattle.cpg_text.specs.Written.{LeavesLines}

-- of the lines the first were written, and the others stand gathered
pub record AreGathered (old new : Option (List ℕ)) (gathered : List ℕ) (lines : List (List ℕ)) : Type 0 where
  pub written : List (List ℕ)
  pub waiting : List (List ℕ)
  pub whole : lines ≡ written ++ waiting
  pub front : Appends old new (concat written)
  pub rest : gathered ≡ concat waiting

-- a call puts more lines behind those that were written or gathered before it; a refusal leaves of all these what it
-- leaves of lines. It goes from what was written and gathered before the call to what is after it
pub record Gathers (result : Result (Unit {0}) Refusal) (was : Option (List ℕ)) (held : List ℕ) (now : Option (List ℕ)) (holds : List ℕ) (more : List (List ℕ)) : Type 0 where
  pub put : (old : Option (List ℕ)) (lines : List (List ℕ)) → AreGathered old was held lines → OnOk result (AreGathered old now holds (lines ++ more))
  pub left : (old : Option (List ℕ)) (lines : List (List ℕ)) → AreGathered old was held lines → IfErr result (λ refusal. LeavesLines (lines ++ more) refusal old now)
