-- lines that are echoed, one after the other
use Rattle.std.proofs.Common.{◌≡◌, ℕ, List, [], ◌∷◌, ◌++◌, sym, ap, ◌∙◌, append_assoc, append-nil}
use Rattle.std.specs.List.{flat_map}
use Rattle.cpg_cluster.specs.Lines.{echoed_line}

-- one line more is put
pub one_line_on : (words whole text line : List ℕ) (lines later : List (List ℕ)) → whole ≡ text ++ flat_map (echoed_line words) lines → lines ≡ line ∷ later
    → whole ≡ (text ++ echoed_line words line) ++ flat_map (echoed_line words) later
one_line_on words whole text line lines later before is =
    before ∙ ap (λ ls. text ++ flat_map (echoed_line words) ls) is ∙ sym (append_assoc text (echoed_line words line) (flat_map (echoed_line words) later))

-- no line is left
pub no_line_left : (words whole text : List ℕ) (lines : List (List ℕ)) → whole ≡ text ++ flat_map (echoed_line words) lines → lines ≡ [] → text ≡ whole
no_line_left words whole text lines before is = sym (before ∙ ap (λ ls. text ++ flat_map (echoed_line words) ls) is ∙ append-nil text)
