-- Bytes that are put behind others.
use Rattle.std.proofs.Common.{◌≡◌, ℕ, List, [], ◌∷◌, ◌++◌, length, take, refl, ap, ◌∙◌}
use Rattle.cpg_ask.specs.Adding.{Begins}

take_self : (xs : List ℕ) → take (length xs) xs ≡ xs
take_self [] = refl
take_self (x ∷ xs) = ap (λ (t : List ℕ). x ∷ t) (take_self xs)

pub begins_self : (xs : List ℕ) → Begins xs xs
begins_self xs = record { same = take_self xs }

take_less : (xs ys all : List ℕ) → take (length (xs ++ ys)) all ≡ xs ++ ys → take (length xs) all ≡ xs
take_less [] ys all e = refl
take_less (x ∷ xs) ys [] e = absurd cc
take_less (x ∷ xs) ys (a ∷ all) e =
    let one : a ≡ x = cc in
    let more : take (length (xs ++ ys)) all ≡ xs ++ ys = cc in
    ap (λ (h : ℕ). h ∷ take (length xs) all) one ∙ ap (λ (t : List ℕ). x ∷ t) (take_less xs ys all more)

-- what stands in front of more
pub begins_before : (xs ys all : List ℕ) → Begins (xs ++ ys) all → Begins xs all
begins_before xs ys all h = record { same = take_less xs ys all h.same }

pub begins_taken : (xs all : List ℕ) → Begins xs all → take (length xs) all ≡ xs
begins_taken xs all h = h.same
