-- The highest byte of two blocks at each place, held to a bound.
use Rattle.std.proofs.Common.{◌≡◌, ℕ, ◌+◌, ◌-◌, ◌%◌, ◌*◌, ltb, Bool, true, false, not, ◌&&◌, cond, eqb, T, List, [], ◌∷◌, map, length, refl, ap₂, ◌∙◌, arith, w8, Fits, IsTrue}
use Rattle.std.proofs.lemmas.Bool.Decides.{nat_tests}
use Rattle.std.specs.List.{list_all}
use Rattle.cpg_text.specs.Steps.{is_low, is_odd}
use Rattle.cpg_text.proofs.Masks.{upto_sound}
use lib.Lanes.{zip2, sel_l, mask_l, top, Each1}

abbrev pub below : ℕ → ℕ → ℕ
below a b = cond (ltb a b) 255 0

low_max : (a b : ℕ) → is_low (cond (top 7 (below a b)) b a) ≡ is_low a && is_low b
low_max a b = by_test (ltb a b) refl
  where
    by_test : (t : Bool) → ltb a b ≡ t → is_low (cond (top 7 (cond t 255 0)) b a) ≡ is_low a && is_low b
    by_test true e = grind (arith, nat_tests, e)
    by_test false e = grind (arith, nat_tests, e)

crossed : (a b c d : Bool) → (a && b) && (c && d) ≡ (a && c) && (b && d)
crossed false b c d = refl
crossed true b false d = cut b
  where
    cut : (b : Bool) → b && false ≡ false
    cut false = refl
    cut true = refl
crossed true false true d = refl
crossed true true true d = refl

pub both_low : (xs ys : List ℕ) → length xs ≡ length ys → list_all is_low (sel_l (map (top 7) (zip2 below xs ys)) ys xs) ≡ list_all is_low xs && list_all is_low ys
both_low [] [] e = refl
both_low [] (y ∷ ys) e = absurd (omega (arith, e))
both_low (x ∷ xs) [] e = absurd (omega (arith, e))
both_low (x ∷ xs) (y ∷ ys) e = ap₂ (λ a b. a && b) (low_max x y) (both_low xs ys (omega (arith, e))) ∙ crossed (is_low x) (is_low y) (list_all is_low xs) (list_all is_low ys)

-- no bit for one that is not low: all are
pub none_high : (xs : List ℕ) → not (not (eqb (mask_l (map (λ x. not (is_low x)) xs)) 0)) ≡ list_all is_low xs
none_high [] = refl
none_high (x ∷ xs) = by_test (is_low x) (mask_l (map (λ y. not (is_low y)) xs)) (list_all is_low xs) (none_high xs)
  where
    by_test : (b : Bool) (m : ℕ) (rest : Bool) → not (not (eqb m 0)) ≡ rest → not (not (eqb (cond (not b) 1 0 + 2 * m) 0)) ≡ b && rest
    by_test true m rest e = grind (arith, nat_tests, e)
    by_test false m rest e = grind (arith, nat_tests, e)

abbrev pub implies : Bool → Bool → Bool
implies true b = b
implies false b = true

-- a byte that is low once 38 was taken is plain
pub low_plain : (xs : List ℕ) → Each1 (Fits w8) xs → IsTrue (list_all is_low (map (λ x. (x + (256 - 38)) % 256) xs)) → mask_l (map is_odd xs) ≡ 0
low_plain [] fits low = refl
low_plain (x ∷ xs) fits low = by_test _ _ (upto_sound (λ y. implies (is_low ((y + (256 - 38)) % 256)) (not (is_odd y))) 256 tt x fits.0.fits) low (low_plain xs fits.1)
  where
    by_test : (b odd : Bool) → T (implies b (not odd)) → IsTrue (b && list_all is_low (map (λ y. (y + (256 - 38)) % 256) xs)) → (IsTrue (list_all is_low (map (λ y. (y + (256 - 38)) % 256) xs)) → mask_l (map is_odd xs) ≡ 0) → cond odd 1 0 + 2 * mask_l (map is_odd xs) ≡ 0
    by_test true false h l more = omega (arith, more l)
    by_test true true h l more = absurd h
    by_test false odd h l more = grind (arith, nat_tests, l)
