-- a line of a script whose item is taken in
use Rattle.std.proofs.Common.{◌≡◌, ℕ, ◌+◌, Bool, false, cond, List, [], ◌∷◌, ◌++◌, length, Option, Some, None, Result, Ok, Err, refl, sym, ap, ◌∙◌, append_assoc}
use Rattle.std.specs.Prelude.{not, IfSome, IsOkUnless, MatchOption, OnOk}
use Rattle.cpg_cred.specs.declared.refusals.Refusal.{Refusal}
use Rattle.cpg_cred.specs.declared.refusals.Refusal.TheVariants.{Memory}
use Rattle.std.proofs.lemmas.List.{length-append}
use Rattle.cpg_text.specs.Lines.{is_ignored, trimmed}
use Rattle.cpg_text.specs.Commands.{commands_from}
use Rattle.cpg_text.specs.Reading.{item_then, items_after}
use Rattle.cpg_text.specs.Items.{items_before, items_with}

one_before : {T : Type 0} (items : List T) (number : ℕ) (item : T) (later : Result (List T) ℕ) → items_before items (item_then number (Some item) later) ≡ items_before (items ++ item ∷ []) later
one_before items number item (Ok later) = ap Ok (sym (append_assoc items (item ∷ []) later))
one_before items number item (Err line) = refl

pub items_one : {T : Type 0} (meaning : ℕ → List ℕ → Option T) (items : List T) (number : ℕ) (line : List ℕ) (lines : List (List ℕ)) (item : T) →
    is_ignored (trimmed line) ≡ false → meaning (length items) (trimmed line) ≡ Some item →
    items_with meaning items number (line ∷ lines) ≡ items_with meaning (items ++ item ∷ []) (number + 1) lines
items_one meaning items number line lines item says is =
    let rest = commands_from (number + 1) lines in
    ap (λ (b : Bool). items_before items (items_after meaning (length items) (cond (not b) ((number, trimmed line) ∷ rest) rest))) says
    ∙ ap (λ (found : Option _). items_before items (item_then number found (items_after meaning (length items + 1) rest))) is
    ∙ one_before items number item (items_after meaning (length items + 1) rest)
    ∙ ap (λ n. items_before (items ++ item ∷ []) (items_after meaning n rest)) (sym (length-append items (item ∷ [])))

-- what a line says was put last, where it says anything
pub found_one : {T : Type 0} (meaning : ℕ → List ℕ → Option T) (result : Result (Unit {0}) Refusal) (found : Option T) (old new : List T) (number : ℕ) (line : List ℕ) (bad : Refusal)
    → is_ignored (trimmed line) ≡ false → meaning (length old) (trimmed line) ≡ found
    → OnOk result (IfSome found (λ item. new ≡ old ++ item ∷ [])) → MatchOption found (result ≡ Err bad) (λ item. IsOkUnless result Memory)
    → OnOk result ((lines : List (List ℕ)) → items_with meaning old number (line ∷ lines) ≡ items_with meaning new (number + 1) lines)
found_one meaning (Err why) found old new number line bad says is put refused = tt
found_one meaning (Ok x) None old new number line bad says is put refused = cc
found_one meaning (Ok x) (Some item) old new number line bad says is put refused = λ lines.
    items_one meaning old number line lines item says is ∙ ap (λ (items : List _). items_with meaning items (number + 1) lines) (sym put)
