-- words gathered one after the other
use Rattle.std.proofs.Common.{◌≡◌, ℕ, suc, ◌+◌, ◌-◌, ◌<◌, List, [], ◌∷◌, ◌++◌, map, take, arith, append_assoc}
use Rattle.std.proofs.lemmas.List.{map-append}
use Rattle.std.specs.Borrow.{Bor}

-- one word more is gathered, and one word less is to come
pub one_more_word : (most i : ℕ) (words : List (Bor (List ℕ))) (word : Bor (List ℕ)) (rest after line : List (List ℕ)) →
    i < most → rest ≡ word.now ∷ after → map (λ one. one.now) words ++ take (most - i) rest ≡ take most line →
    map (λ one. one.now) (words ++ word ∷ []) ++ take (most - (i + 1)) after ≡ take most line
one_more_word most i words word rest after line below first taken =
    let left : most - i ≡ suc (most - (i + 1)) = omega arith in
    rw (map-append, append_assoc) (rw (first, left) at taken)
