-- memory that is refused where a text is read
use Rattle.std.specs.Prelude.{◌≡◌, Option, Result, IfErr, IsSome}
use Rattle.cpg_cred.specs.declared.refusals.Refusal.{Refusal}
use Rattle.cpg_cred.specs.declared.refusals.Refusal.TheVariants as refusal

-- a value, or Memory where there is something that asks for memory
abbrev pub IsOkUnlessMemoryFor : {T U : Type 0} → Result T Refusal → Option U → Type 0
IsOkUnlessMemoryFor result what = IfErr result (λ refused. (refused ≡ refusal.Memory) × IsSome what)
