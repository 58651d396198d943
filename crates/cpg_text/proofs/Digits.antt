use Rattle.std.proofs.Common.{◌≡◌, ℕ, ◌+◌, ◌*◌, ◌-◌, ◌<◌, ◌≤◌, ◌^◌, sym, ◌∙◌, List, [], ◌∷◌, length, Bool, true, false, ◌&&◌, nat_le, nat_lt, if◌then◌else◌, Some, None, refl, ap, arith}
use Rattle.std.proofs.lemmas.Bool.Decides.{nat_tests}
use Rattle.std.proofs.lemmas.Grind.{pow_more}
use Rattle.std.proofs.Math.Nat.{pow-le-pow_right}
use Rattle.std.specs.Char.{is_ascii_digit}
use Rattle.std.specs.List.{list_all}
use Rattle.cpg_text.specs.Numbers.{value_after, number_in}
use Rattle.cpg_text.specs.Steps.{one_digit, read_digits, read_on}

-- digits only make a number greater
pub value_after_ge : (n : ℕ) (cs : List ℕ) → n ≤ value_after n cs
value_after_ge n [] = omega arith
value_after_ge n (c ∷ cs) = omega (arith, value_after_ge (n * 10 + (c - 48)) cs)

pub read_on_none : (most : ℕ) (cs : List ℕ) → read_on most None cs ≡ None
read_on_none most cs = refl

-- a number past the most has no answer, whatever follows
pub too_great : (most m : ℕ) (cs : List ℕ) (x : Bool) → nat_le m most ≡ false → None ≡ (if x && nat_le (value_after m cs) most then Some (value_after m cs) else None)
too_great most m cs false over = refl
too_great most m cs true over = grind (arith, nat_tests, value_after_ge m cs)

-- one digit more: the rest reads on from a number that fits
pub by_tests : (most m : ℕ) (cs : List ℕ) (digit fits : Bool) → nat_le m most ≡ fits
    → (m ≤ most → read_on most (Some m) cs ≡ (if list_all is_ascii_digit cs && nat_le (value_after m cs) most then Some (value_after m cs) else None))
    → read_on most (if digit && fits then Some m else None) cs ≡ (if (digit && list_all is_ascii_digit cs) && nat_le (value_after m cs) most then Some (value_after m cs) else None)
by_tests most m cs false fits e rest = refl
by_tests most m cs true false e rest = too_great most m cs (list_all is_ascii_digit cs) e
by_tests most m cs true true e rest = rest (grind (arith, nat_tests))

-- reading from the left gives the number, if it is one
pub read_on_is : (most n : ℕ) (cs : List ℕ) → n ≤ most → read_on most (Some n) cs ≡ (if list_all is_ascii_digit cs && nat_le (value_after n cs) most then Some (value_after n cs) else None)
read_on_is most n [] within = grind (arith, nat_tests)
read_on_is most n (c ∷ cs) within =
    by_tests most (n * 10 + (c - 48)) cs (is_ascii_digit c) (nat_le (n * 10 + (c - 48)) most) refl (read_on_is most (n * 10 + (c - 48)) cs)

-- a word that reads as a number from the lowest on is that number
pub number_found : (low high number : ℕ) (word : List ℕ) → 0 < length word → low ≤ number → read_on high (Some 0) word ≡ Some number → Some number ≡ number_in low high word
number_found low high number word long within e =
    by_tests_of (list_all is_ascii_digit word) (nat_le (value_after 0 word) high) refl refl
  where
    by_tests_of : (digits fits : Bool) → list_all is_ascii_digit word ≡ digits → nat_le (value_after 0 word) high ≡ fits → Some number ≡ number_in low high word
    by_tests_of false fits d f =
        let read = rw d at (read_on_is high 0 word (omega arith)) in cc
    by_tests_of true false d f =
        let read = rw (d, f) at (read_on_is high 0 word (omega arith)) in cc
    by_tests_of true true d f =
        let read = rw (d, f) at (read_on_is high 0 word (omega arith)) in
        let same : number ≡ value_after 0 word = cc in
        let one : nat_lt 0 (length word) ≡ true = grind (arith, nat_tests) in
        let low_enough : nat_le low (value_after 0 word) ≡ true = grind (arith, nat_tests) in
        rw (one, d, low_enough, f) (ap Some same)

-- one digit more of a number that can't pass
pub digit_more : (n i m byte : ℕ) → n < 10 ^ i → one_digit n byte ≡ Some m → m < 10 ^ (i + 1)
digit_more n i m byte below e = by_digit (is_ascii_digit byte) refl
  where
    by_digit : (digit : Bool) → is_ascii_digit byte ≡ digit → m < 10 ^ (i + 1)
    by_digit false d = let none = rw d at e in cc
    by_digit true d =
        let most : byte ≤ 57 = grind (arith, nat_tests) in
        let some = rw d at e in
        let same : n * 10 + (byte - 48) ≡ m = cc in
        omega (arith, pow_more 10 i, most, below, same)

-- a number of eight digits stays small
pub power_within : (n i : ℕ) → i < 9 → n < 10 ^ i → n < 100000000
power_within n i short below =
    let some : 1 ≤ 10 = omega arith in
    let within : i ≤ 8 = omega arith in
    let most : 10 ^ i ≤ 10 ^ 8 = pow-le-pow_right some within in
    omega (arith, most, below)

-- one digit more is read, if it is one
digit_then : (m : ℕ) (cs : List ℕ) (digit : Bool) → read_digits (Some m) cs ≡ (if list_all is_ascii_digit cs then Some (value_after m cs) else None)
    → read_digits (if digit then Some m else None) cs ≡ (if digit && list_all is_ascii_digit cs then Some (value_after m cs) else None)
digit_then m cs false rest = refl
digit_then m cs true rest = rest

read_digits_is : (n : ℕ) (cs : List ℕ) → read_digits (Some n) cs ≡ (if list_all is_ascii_digit cs then Some (value_after n cs) else None)
read_digits_is n [] = refl
read_digits_is n (c ∷ cs) = digit_then (n * 10 + (c - 48)) cs (is_ascii_digit c) (read_digits_is (n * 10 + (c - 48)) cs)

-- short words that are not digits alone read as nothing
pub short_none : (most : ℕ) (word : List ℕ) → None ≡ read_digits (Some 0) word → None ≡ read_on most (Some 0) word
short_none most word e = by_digits (list_all is_ascii_digit word) refl
  where
    by_digits : (digits : Bool) → list_all is_ascii_digit word ≡ digits → None ≡ read_on most (Some 0) word
    by_digits false d = sym (rw d at (read_on_is most 0 word (omega arith)))
    by_digits true d = let none = rw d at (e ∙ read_digits_is 0 word) in cc

-- short words of digits alone read as their number, where it is at most the most
pub short_some : (most number : ℕ) (word : List ℕ) → Some number ≡ read_digits (Some 0) word → (if nat_le number most then Some number else None) ≡ read_on most (Some 0) word
short_some most number word e = by_digits (list_all is_ascii_digit word) refl
  where
    by_digits : (digits : Bool) → list_all is_ascii_digit word ≡ digits → (if nat_le number most then Some number else None) ≡ read_on most (Some 0) word
    by_digits false d = let some = rw d at (e ∙ read_digits_is 0 word) in cc
    by_digits true d =
        let some = rw d at (e ∙ read_digits_is 0 word) in
        let same : number ≡ value_after 0 word = cc in
        rw same (sym (rw d at (read_on_is most 0 word (omega arith))))
