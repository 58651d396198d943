-- how many words there are
use Rattle.std.proofs.Common.{◌≡◌, ℕ, ◌<◌, List, [], ◌∷◌, length, take, Some, None, if◌then◌else◌, option_map, refl, ap, arith}
use Rattle.std.specs.Borrow.{Bor}
use Rattle.cpg_entry.specs.declared.calls.Op.TheVariants.{Act, Gone}
use Rattle.cpg_text.specs.Words.{◌>>=◌}
use Rattle.cpg_print.specs.Calls.{call_of, insert_of, is_enterable, is_gone}
use Rattle.cpg_print.specs.Entries.{enterable_op}
use Rattle.cpg_print.specs.Rules.{rule_of}
use Rattle.cpg_print.specs.Words.{texts}

-- no word of a call after the seventh matters
pub call_of_first : (words : List (List ℕ)) → call_of (take 7 words) ≡ call_of words
unfolding rule_of
call_of_first [] = refl
call_of_first (a ∷ []) = refl
call_of_first (a ∷ b ∷ []) = refl
call_of_first (a ∷ b ∷ c ∷ []) = refl
call_of_first (a ∷ b ∷ c ∷ d ∷ []) = refl
call_of_first (a ∷ b ∷ c ∷ d ∷ e ∷ []) = refl
call_of_first (a ∷ b ∷ c ∷ d ∷ e ∷ f ∷ []) = refl
call_of_first (a ∷ b ∷ c ∷ d ∷ e ∷ f ∷ g ∷ more) = refl

-- nor one of an op
pub enterable_of_first : (words : List (List ℕ)) → enterable_op (take 7 words) ≡ enterable_op words
enterable_of_first words =
    ap (λ op. op >>= λ op. if is_enterable op then Some op else None)
    (λ i. if gone_of_first words i then Some Gone else option_map (λ call. Act call) (call_of_first words i))
  where
    gone_of_first : (words : List (List ℕ)) → is_gone (take 7 words) ≡ is_gone words
    gone_of_first [] = refl
    gone_of_first (a ∷ []) = refl
    gone_of_first (a ∷ b ∷ more) = refl

-- no insert is of fewer than four words
pub insert_of_short : (words : List (Bor (List ℕ))) → length words < 4 → insert_of (texts words) ≡ None
insert_of_short [] short = refl
insert_of_short (a ∷ []) short = refl
insert_of_short (a ∷ b ∷ []) short = refl
insert_of_short (a ∷ b ∷ c ∷ []) short = refl
insert_of_short (a ∷ b ∷ c ∷ d ∷ more) short = absurd (omega arith)
