-- numbers in a row, parted, and what they make, one stretch after the other
use Rattle.std.proofs.Common.{◌≡◌, ℕ, ◌+◌, ◌-◌, ◌<◌, ◌≤◌, zero, suc, List, [], ◌∷◌, ◌++◌, refl, ap, ◌∙◌, append-nil, zero-add, add-zero, arith}
use Rattle.std.specs.List.{flat_map, range_with_len}
use Rattle.std.proofs.lemmas.List.Concat.{flat_map-append}

-- numbers in a row, parted
pub numbers_parted : (a m n : ℕ) → range_with_len a (m + n) ≡ range_with_len a m ++ range_with_len (a + m) n
numbers_parted a zero n = rw (zero-add n, add-zero a) refl
numbers_parted a (suc m) n =
    let sum : suc m + n ≡ suc (m + n) = omega arith in
    let next : a + suc m ≡ a + 1 + m = omega arith in
    rw (sum, next) (ap (λ l. a ∷ l) (numbers_parted (a + 1) m n))

module _ {A : Type 0} (f : ℕ → List A) where
  -- what the numbers above one, up to another, make
  abbrev pub made_between : ℕ → ℕ → List A
  made_between after last = flat_map f (range_with_len (after + 1) (last - after))

  -- it is parted at a number amid
  pub made_parted : (after amid last : ℕ) → after ≤ amid → amid ≤ last → made_between after last ≡ made_between after amid ++ made_between amid last
  made_parted after amid last low high =
      let sum : last - after ≡ (amid - after) + (last - amid) = omega (arith, low, high) in
      let next : after + 1 + (amid - after) ≡ amid + 1 = omega (arith, low) in
      ap (λ n. flat_map f (range_with_len (after + 1) n)) sum
      ∙ ap (flat_map f) (numbers_parted (after + 1) (amid - after) (last - amid))
      ∙ ap (λ n. flat_map f (range_with_len (after + 1) (amid - after) ++ range_with_len n (last - amid))) next
      ∙ flat_map-append f (range_with_len (after + 1) (amid - after)) (range_with_len (amid + 1) (last - amid))

  -- the last number makes what stands last
  pub made_by_last : (after last : ℕ) → after < last → made_between after last ≡ made_between after (last - 1) ++ f last
  made_by_last after last above =
      let one : last - (last - 1) ≡ 1 = omega (arith, above) in
      let here : last - 1 + 1 ≡ last = omega (arith, above) in
      made_parted after (last - 1) last (omega (arith, above)) (omega (arith, above))
      ∙ ap (λ n. made_between after (last - 1) ++ flat_map f (range_with_len (last - 1 + 1) n)) one
      ∙ ap (λ n. made_between after (last - 1) ++ (f n ++ [])) here
      ∙ ap (λ l. made_between after (last - 1) ++ l) (append-nil (f last))

  -- what all numbers up to one make
  pub made_from_first : (last : ℕ) → flat_map f (range_with_len 1 last) ≡ made_between 0 last
  made_from_first last =
      let all : last ≡ last - 0 = omega arith in
      ap (λ n. flat_map f (range_with_len 1 n)) all
