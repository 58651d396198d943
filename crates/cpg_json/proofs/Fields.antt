-- fields, some after the others
use Rattle.std.proofs.Common.{◌≡◌, ℕ, List, [], ◌∷◌, ◌++◌, map, codes, refl, sym, ap, ◌∙◌, append_assoc}
use Rattle.std.specs.List.{concat, flat_map}
use Rattle.std.proofs.lemmas.List.Concat.{flat_map-append}
use Rattle.cpg_json.specs.Objects.{after_comma, line as object_line, more}

pub more_append : (some others : List (List ℕ)) → more (some ++ others) ≡ more some ++ more others
more_append some others = flat_map-append after_comma some others

-- lines as one text
pub lines_as_text : {A : Type 0} (line : A → List ℕ) (items : List A) → concat (map line items) ≡ flat_map line items
lines_as_text line [] = refl
lines_as_text line (first ∷ others) = ap (λ text. line first ++ text) (lines_as_text line others)

regrouped : (old first some others : List ℕ) → (((old ++ (123 ∷ first)) ++ some) ++ others) ++ (125 ∷ 10 ∷ []) ≡ old ++ ((123 ∷ ((first ++ (some ++ others)) ++ (125 ∷ []))) ++ (10 ∷ []))
regrouped old first some others = simp (append_assoc)

-- an object whose fields behind the first are put in two parts
pub two_put : (old first front mid last new : List ℕ) (some others : List (List ℕ)) → front ≡ old ++ (codes "{" ++ first) → mid ≡ front ++ more some → last ≡ mid ++ more others
    → new ≡ last ++ codes "}\n" → new ≡ old ++ object_line (first ∷ some ++ others)
two_put old first front mid last new some others begun second third ended =
    ended ∙ ap (λ l. l ++ codes "}\n") (third ∙ ap (λ l. l ++ more others) (second ∙ ap (λ l. l ++ more some) begun))
    ∙ regrouped old first (more some) (more others)
    ∙ ap (λ (m : List ℕ). old ++ ((123 ∷ ((first ++ m) ++ (125 ∷ []))) ++ (10 ∷ []))) (sym (more_append some others))
