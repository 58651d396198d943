-- Entries in blocks.
use Rattle.std.proofs.Common.{◌≡◌, ℕ, zero, suc, ◌+◌, ◌-◌, ◌*◌, ◌<◌, ◌≤◌, List, [], ◌∷◌, ◌++◌, take, drop, append-nil, append_assoc, length, length-append, length-take-le, All, slice_get, Option, None, Some, refl, sym, ap, ◌∙◌, arith}
use Rattle.std.proofs.lemmas.List.{length-drop, take-append-drop}
use Rattle.std.proofs.lemmas.List.Elements.{All-push}
use Rattle.std.proofs.lemmas.Option.{none-some}
use Rattle.std.proofs.Math.Seq.{take-append_seam}
use Rattle.std.specs.Arc.{arc_value}
use Rattle.std.specs.declared.sync.Arc.{Arc}
use Rattle.std.specs.declared.vec.Vec.{Vec}
use Rattle.cpg_entry.specs.Blocks.{laid, IsBlock}

module _ {T : Type 0} where
  -- what is there, else the other
  abbrev there : T → Option T → T
  there d None = d
  there d (Some x) = x

  some_is : {x y : T} → Some x ≡ Some y → x ≡ y
  some_is {x} is = ap (there x) is

  -- the first items, where there are so many
  pub first_full : (xs : List T) → 256 ≤ length xs → length (take 256 xs) ≡ 256
  first_full xs = length-take-le 256 xs

  pub length_append : (xs ys : List T) → length (xs ++ ys) ≡ length xs + length ys
  length_append = length-append

  -- an item of the first list
  pub at_left : (xs ys : List T) (i : ℕ) → i < length xs → slice_get (xs ++ ys) i ≡ slice_get xs i
  at_left [] ys i h = absurd (omega arith)
  at_left (x ∷ xs) ys zero h = refl
  at_left (x ∷ xs) ys (suc i) h = at_left xs ys i (omega arith)

  -- all of the first list, and the first items of the second
  pub take_over : (xs ys : List T) (n k : ℕ) → n ≡ length xs + k → take n (xs ++ ys) ≡ xs ++ take k ys
  take_over [] ys n k e = let same : n ≡ k = omega arith in ap (λ m. take m ys) same
  take_over (x ∷ xs) ys zero k e = absurd (omega arith)
  take_over (x ∷ xs) ys (suc n) k e = ap (λ l. x ∷ l) (take_over xs ys n k (omega arith))

  -- no more than there were
  pub take_shorter : (k : ℕ) (ys : List T) → length (take k ys) ≤ length ys
  take_shorter zero ys = omega arith
  take_shorter (suc k) [] = omega arith
  take_shorter (suc k) (y ∷ ys) = let rest = take_shorter k ys in omega arith

  -- what is left once the first items, which came last, are cut off
  pub rotated : (xs : List T) (n rest : ℕ) → n + rest ≡ length xs → take rest (drop n xs ++ take n xs) ≡ drop n xs
  rotated xs n rest e =
      let left : rest ≡ length xs - n = omega arith in
      let same : rest ≡ length (drop n xs) = left ∙ sym (length-drop n xs) in
      ap (λ k. take k (drop n xs ++ take n xs)) same ∙ take-append_seam (drop n xs) (take n xs)

  -- an item of the second list
  pub at_right : (xs ys : List T) (i k : ℕ) → i ≡ length xs + k → slice_get (xs ++ ys) i ≡ slice_get ys k
  at_right [] ys i k e = let same : i ≡ k = omega arith in ap (slice_get ys) same
  at_right (x ∷ xs) ys zero k e = absurd (omega arith)
  at_right (x ∷ xs) ys (suc i) k e = at_right xs ys i k (omega arith)

module _ {T Y Z : Type 0} where
  -- how many items blocks have
  pub length_laid : (blocks : List (Arc (Vec T Y) Z)) → All IsBlock blocks → length (laid blocks) ≡ 256 * length blocks
  unfolding laid
  length_laid [] all = omega arith
  length_laid (b ∷ bs) all =
      let rest = length_laid bs (λ k d within. all (suc k) d (omega arith)) in
      let here : length (arc_value b).items ≡ 256 = all 0 b (omega arith) in
      let more = length-append (arc_value b).items (laid bs) in
      omega arith

  -- an item of a block
  pub laid_at : (blocks : List (Arc (Vec T Y) Z)) (b : Arc (Vec T Y) Z) (k j : ℕ) → All IsBlock blocks → slice_get blocks k ≡ Some b → j < 256
      → slice_get (laid blocks) (256 * k + j) ≡ slice_get (arc_value b).items j
  unfolding laid
  laid_at [] b k j all is low = absurd (none-some b is)
  laid_at (x ∷ bs) b zero j all is low =
      let same : x ≡ b = some_is is in
      let here : length (arc_value x).items ≡ 256 = all 0 x (omega arith) in
      let at : 256 * 0 + j ≡ j = omega arith in
      at_left (arc_value x).items (laid bs) (256 * 0 + j) (omega arith) ∙ (λ i. slice_get (arc_value (same i)).items (at i))
  laid_at (x ∷ bs) b (suc k) j all is low =
      let here : length (arc_value x).items ≡ 256 = all 0 x (omega arith) in
      at_right (arc_value x).items (laid bs) (256 * suc k + j) (256 * k + j) (omega arith)
      ∙ laid_at bs b k j (λ n d within. all (suc n) d (omega arith)) is low

  -- one block more
  laid_push : (blocks : List (Arc (Vec T Y) Z)) (b : Arc (Vec T Y) Z) → laid (blocks ++ b ∷ []) ≡ laid blocks ++ (arc_value b).items
  unfolding laid
  laid_push [] b = append-nil (arc_value b).items
  laid_push (x ∷ bs) b = ap (λ l. (arc_value x).items ++ l) (laid_push bs b) ∙ sym (append_assoc (arc_value x).items (laid bs) (arc_value b).items)

  -- a block in place of the first own items
  pub moved_over : (blocks : List (Arc (Vec T Y) Z)) (b : Arc (Vec T Y) Z) (own : List T) → (arc_value b).items ≡ take 256 own
      → laid (blocks ++ b ∷ []) ++ drop 256 own ≡ laid blocks ++ own
  moved_over blocks b own is =
      ap (λ l. l ++ drop 256 own) (laid_push blocks b)
      ∙ (append_assoc (laid blocks) (arc_value b).items (drop 256 own)
      ∙ ap (λ l. laid blocks ++ l) (ap (λ l. l ++ drop 256 own) is ∙ take-append-drop 256 own))

  -- it adds its items
  pub laid_more : (blocks : List (Arc (Vec T Y) Z)) (b : Arc (Vec T Y) Z) → IsBlock b → length (laid (blocks ++ b ∷ [])) ≡ length (laid blocks) + 256
  laid_more blocks b is = let more = ap length (laid_push blocks b) ∙ length-append (laid blocks) (arc_value b).items in omega arith

  -- all are blocks then, too
  pub blocks_push : (blocks : List (Arc (Vec T Y) Z)) (b : Arc (Vec T Y) Z) → All IsBlock blocks → IsBlock b → All IsBlock (blocks ++ b ∷ [])
  blocks_push blocks b = All-push IsBlock blocks b

module _ {T : Type 0} where
  -- no block, and own items alone
  pub none_laid : (Y Z : Type 0) (own : List T) → laid {T = T} {Y = Y} {Z = Z} [] ++ own ≡ own
  unfolding laid
  none_laid Y Z own = refl
