-- what is put in two pieces
use Rattle.std.proofs.Common.{◌≡◌, ℕ, ◌+◌, ◌<◌, List, [], ◌∷◌, ◌++◌, length, take, get_or, Result, Ok, Err, ap, append_assoc, ◌∙◌}
use Rattle.std.proofs.lemmas.List.{take_more}
use Rattle.std.proofs.lemmas.List.Concat.{flat_map-append}
use Rattle.std.specs.Prelude.{OnOk}
use Rattle.cpg_hint.specs.Marks.{blanks}

-- a piece and then another are put as one
pub put_both : {T E : Type 0} (result : Result T E) (old first both front end : List ℕ)
    → first ≡ old ++ front → OnOk result (both ≡ first ++ end) → OnOk result (both ≡ old ++ (front ++ end))
put_both (Ok x) old first both front end e h = h ∙ ap (λ text. text ++ end) e ∙ append_assoc old front end
put_both (Err x) old first both front end e h = tt

-- a space for one character more
pub blank_more : (text : List ℕ) (i : ℕ) → i < length text → blanks (take (i + 1) text) ≡ blanks (take i text) ++ (32 ∷ [])
blank_more text i within = ap blanks (take_more text i 0 within) ∙ flat_map-append (λ character. 32 ∷ []) (take i text) (get_or text i 0 ∷ [])
