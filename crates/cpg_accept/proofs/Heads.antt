-- a line that begins no part by its first byte
use Rattle.std.proofs.Common.{◌≡◌, ℕ, zero, suc, ◌-◌, ◌<◌, ◌≤◌, ◌==◌, List, [], ◌∷◌, length, get_or, take, true, false, nat_lt, None, refl, sym, ap, ◌∙◌, arith}
use Rattle.std.proofs.lemmas.Bool.Decides.{nat_tests}
use Rattle.std.specs.List.{suffix_len}
use Rattle.cpg_text.specs.Lines.{is_edge, trimmed, trimmed_end, trimmed_front}
use Rattle.cpg_accept.specs.Parts.{head_of}

-- a byte past `%` is no edge, so the front stays
front_stays : (first : ℕ) (rest : List ℕ) → 37 < first → trimmed_front (first ∷ rest) ≡ first ∷ rest
front_stays first rest past =
    let word : is_edge first ≡ false = grind (arith, nat_tests) in
    let some : nat_lt 0 (suc (length rest)) ≡ true = grind (arith, nat_tests) in
    rw (word, some) refl

-- what begins with it is no head, however much is taken
taken_is_none : (count first : ℕ) (rest : List ℕ) → 37 < first → head_of (take count (first ∷ rest)) ≡ None
taken_is_none zero first rest past = refl
taken_is_none (suc count) first rest past =
    let other : (first == 37) ≡ false = grind (arith, nat_tests) in
    rw other refl

pub no_head : (line : List ℕ) (other : ℕ) → 1 ≤ length line → 37 < get_or line 0 other → None ≡ head_of (trimmed line)
no_head [] other some past = absurd (omega (arith, some))
no_head (first ∷ rest) other some past =
    sym (ap (λ line. head_of (trimmed_end line)) (front_stays first rest past)
    ∙ taken_is_none (length (first ∷ rest) - suffix_len is_edge (first ∷ rest)) first rest past)
