-- a script that is read line by line
use Rattle.std.proofs.Common.{◌≡◌, ℕ, List, [], Option, Result, Ok, sym, ap, subst, append-nil}
use Rattle.cpg_cred.specs.declared.refusals.Refusal.{Refusal}
use Rattle.cpg_text.specs.Reading.{FailsAs}
use Rattle.cpg_text.specs.Items.{items_with}

-- no line is left
pub items_with_none : {T : Type 0} (meaning : ℕ → List ℕ → Option T) (items : List T) (number : ℕ) → items_with meaning items number [] ≡ Ok items
items_with_none meaning items number = ap Ok (append-nil items)

-- the same script fails alike
pub fails_along : {T : Type 0} (script other : Result (List T) ℕ) (refusal : Refusal) → script ≡ other → FailsAs other refusal → FailsAs script refusal
fails_along script other refusal e h = subst (λ s. FailsAs s refusal) (sym e) h
