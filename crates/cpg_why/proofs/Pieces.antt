-- the pieces of places, one after the other
use Rattle.std.proofs.Common.{◌≡◌, ℕ, zero, suc, ◌+◌, List, ◌++◌, sym, ap, ◌∙◌, append_assoc, append-nil, arith}
use Rattle.std.specs.List.{flat_map, range_with_len}

pieces_suc : {X : Type 0} (f : ℕ → List X) (a n : ℕ) → flat_map f (range_with_len a (suc n)) ≡ flat_map f (range_with_len a n) ++ f (a + n)
pieces_suc f a zero =
    let here : a ≡ a + 0 = omega arith in
    append-nil (f a) ∙ ap f here
pieces_suc f a (suc n) =
    let next : a + 1 + n ≡ a + suc n = omega arith in
    ap (λ more. f a ++ more) (pieces_suc f (a + 1) n ∙ ap (λ k. flat_map f (range_with_len (a + 1) n) ++ f k) next)
    ∙ sym (append_assoc (f a) (flat_map f (range_with_len (a + 1) n)) (f (a + suc n)))

-- the piece of one number more
pub pieces_more : {X : Type 0} (f : ℕ → List X) (a n : ℕ) → flat_map f (range_with_len a (n + 1)) ≡ flat_map f (range_with_len a n) ++ f (a + n)
pieces_more f a n =
    let next : n + 1 ≡ suc n = omega arith in
    ap (λ k. flat_map f (range_with_len a k)) next ∙ pieces_suc f a n

-- a list that grows by the next piece
pub piece_put : {X : Type 0} (f : ℕ → List X) (n : ℕ) (front old new : List X) → old ≡ front ++ flat_map f (range_with_len 1 n) → new ≡ old ++ f (n + 1)
    → new ≡ front ++ flat_map f (range_with_len 1 (n + 1))
piece_put {X} f n front old new before put =
    let next : 1 + n ≡ n + 1 = omega arith in
    put ∙ ap (λ (xs : List X). xs ++ f (n + 1)) before ∙ append_assoc front (flat_map f (range_with_len 1 n)) (f (n + 1))
    ∙ ap (λ (xs : List X). front ++ xs) (sym (pieces_more f 1 n ∙ ap (λ k. flat_map f (range_with_len 1 n) ++ f k) next))
