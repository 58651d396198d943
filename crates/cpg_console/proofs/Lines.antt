-- lines with room for so many bytes
use Rattle.std.proofs.Common.{◌≡◌, ℕ, List, ◌++◌, Result, Ok, Err}
use Rattle.std.specs.Prelude.{OnOk}
use Rattle.std.specs.Fmt.{WritesInCalls}
use Rattle.std.proofs.lemmas.Fmt.{contents_after_writes}
use Rattle.arrayvec.specs.ArrayString.{ArrayString}

-- what was written in calls stands at the line's end
pub written_behind : {E : Type 0} (done : Result (Unit {0}) E) (w v : ArrayString) (bytes : List ℕ)
    → OnOk done (WritesInCalls (λ s more t. t.bytes ≡ s.bytes ++ more) w bytes v) → OnOk done (v.bytes ≡ w.bytes ++ bytes)
written_behind (Ok u) w v bytes h = contents_after_writes (λ s more t. t.bytes ≡ s.bytes ++ more) (λ s. s.bytes) (λ s more t e. e) w bytes v h
written_behind (Err e) w v bytes h = tt
