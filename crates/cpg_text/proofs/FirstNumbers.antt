-- a number at the front of a line, read up to the blank that ends it
use Rattle.std.proofs.Common.{◌≡◌, ℕ, suc, zero, ◌+◌, ◌*◌, ◌-◌, ◌<◌, ◌≤◌, ◌^◌, List, [], ◌∷◌, ◌++◌, length, take, drop, get_or, Bool, true, false, cond, not, ◌&&◌, nat_le, nat_lt, Some, None, refl, sym, ap, ◌∙◌, arith}
use Rattle.std.proofs.lemmas.Bool.Decides.{nat_tests}
use Rattle.std.proofs.lemmas.Grind.{pow_more}
use Rattle.std.proofs.lemmas.List.{take_all, length-take}
use Rattle.std.proofs.lemmas.List.Folds.{list_all_more}
use Rattle.std.proofs.Math.Nat.{pow-le-pow_right}
use Rattle.std.proofs.Math.Numerals.{suc-eq-add-one}
use Rattle.std.proofs.Math.Seq.{take-suc, drop-cons}
use Rattle.std.specs.Char.{is_ascii_digit}
use Rattle.std.specs.List.{list_all, position, position_or_len}
use Rattle.cpg_text.specs.Lines.{is_blank, words_of}
use Rattle.cpg_text.specs.Numbers.{value_after, value_of, number_in, first_number}
use Rattle.cpg_text.specs.Steps.{StartsWord}
use Rattle.cpg_text.proofs.Blanks.{first_of_words, last_of_words}

-- the value after one digit more
value_more : (n d : ℕ) (digits : List ℕ) → value_after n (digits ++ d ∷ []) ≡ value_after n digits * 10 + (d - 48)
value_more n d [] = refl
value_more n d (c ∷ digits) = value_more (n * 10 + (c - 48)) d digits

-- the value of the digits up to the next place
pub value_up_to : (line : List ℕ) (end d : ℕ) → end < length line → value_of (take (end + 1) line) ≡ value_of (take end line) * 10 + (get_or line end d - 48)
value_up_to line end d within = ap (λ count. value_of (take count line)) (sym (suc-eq-add-one end)) ∙ ap (value_after 0) (take-suc line end d within) ∙ value_more 0 (get_or line end d) (take end line)

-- one digit more is all digits
pub digits_up_to : (line : List ℕ) (end : ℕ) → end < length line → list_all is_ascii_digit (take end line) ≡ true → is_ascii_digit (get_or line end 0) ≡ true
    → list_all is_ascii_digit (take (end + 1) line) ≡ true
digits_up_to line end within digits digit = list_all_more is_ascii_digit line end 0 within ∙ rw (digits, digit) refl

-- one digit more of a number of so many
pub small_more : (n end byte : ℕ) → n < 10 ^ end → is_ascii_digit byte ≡ true → n * 10 + (byte - 48) < 10 ^ (end + 1)
small_more n end byte below digit =
    let most : byte ≤ 57 = grind (arith, nat_tests) in
    omega (arith, pow_more 10 end, most, below)

-- a number of nine digits stays below a thousand millions
pub below_nine : (n end : ℕ) → end ≤ 9 → n < 10 ^ end → n < 1000000000
below_nine n end few below =
    let some : 1 ≤ 10 = omega arith in
    let most : 10 ^ end ≤ 10 ^ 9 = pow-le-pow_right some few in
    omega (arith, most, below)

-- no digit is a blank
digit_is_no_blank : (byte : ℕ) → is_ascii_digit byte ≡ true → is_blank byte ≡ false
digit_is_no_blank byte e = grind (arith, nat_tests)

-- two tests that both pass
both : (a b : Bool) → (a && b) ≡ true → (a ≡ true) × (b ≡ true)
both false b e = cc
both true b e = (refl, e)

-- the first blank stands behind the digits
blank_past : (line : List ℕ) (end : ℕ) → end ≤ length line → list_all is_ascii_digit (take end line) ≡ true
    → position_or_len is_blank line ≡ end + position_or_len is_blank (drop end line)
blank_past line zero within digits = omega arith
blank_past [] (suc end) within digits = absurd (omega arith)
blank_past (byte ∷ line) (suc end) within digits =
    let tests = both (is_ascii_digit byte) (list_all is_ascii_digit (take end line)) digits in
    let rest = blank_past line end (omega arith) tests.1 in
    ap (λ test. cond (not test) (1 + position_or_len is_blank line) 0) (digit_is_no_blank byte tests.0) ∙ omega (arith, rest)

-- a word of digits that writes a small number
number_here : (word : List ℕ) (number : ℕ) → 0 < length word → list_all is_ascii_digit word ≡ true → number ≡ value_of word → number < 1000000000
    → number_in 0 4294967295 word ≡ Some number
number_here word number some digits value small =
    let one : nat_lt 0 (length word) ≡ true = grind (arith, nat_tests) in
    let least : nat_le 0 (value_of word) ≡ true = grind (arith, nat_tests) in
    let most : nat_le (value_of word) 4294967295 ≡ true = grind (arith, nat_tests) in
    rw (one, digits, least, most) (ap Some (sym value))

-- a blank that ends the digits ends the first word
pub number_before_blank : (line : List ℕ) (number end : ℕ) → StartsWord line → end < length line → list_all is_ascii_digit (take end line) ≡ true
    → number ≡ value_of (take end line) → number < 1000000000 → is_blank (get_or line end 0) ≡ true
    → Some (number, words_of (take (length line - (end + 1)) (drop (end + 1) line))) ≡ first_number (words_of line)
number_before_blank line number end starts within digits value small blank =
    let here : position_or_len is_blank (drop end line) ≡ 0 =
    ap (position_or_len is_blank) (drop-cons line end 0 within)
    ∙ ap (λ test. cond (not test) (1 + position_or_len is_blank (drop (suc end) line)) 0) blank in
    let place : position_or_len is_blank line ≡ end = omega (arith, blank_past line end (omega arith) digits, here) in
    let found : position is_blank line ≡ Some end = grind (arith, nat_tests, place, within) in
    let words = first_of_words line end starts found in
    sym (ap first_number words ∙ rw (number_here (take end line) number (omega (arith, has_byte line end starts within blank, length-take end line)) digits value small) refl)
  where
    has_byte : (line : List ℕ) (end : ℕ) → StartsWord line → end < length line → is_blank (get_or line end 0) ≡ true → 0 < end
    has_byte [] end starts within blank = absurd (omega arith)
    has_byte (byte ∷ line) zero starts within blank = cc
    has_byte (byte ∷ line) (suc end) starts within blank = omega arith

-- digits to the line's end are its only word
pub number_at_end : (line : List ℕ) (number end : ℕ) → 0 < end → end ≡ length line → list_all is_ascii_digit (take end line) ≡ true
    → number ≡ value_of (take end line) → number < 1000000000
    → Some (number, words_of []) ≡ first_number (words_of line)
number_at_end line number end some at digits value small =
    let all : take end line ≡ line = take_all end line (omega (arith, at)) in
    let whole : list_all is_ascii_digit line ≡ true = ap (list_all is_ascii_digit) (sym all) ∙ digits in
    let worth : number ≡ value_of line = value ∙ ap value_of all in
    let past = blank_past line end (omega (arith, at)) digits in
    let none : position is_blank line ≡ None = grind (arith, nat_tests, past, at) in
    sym (ap first_number (last_of_words line (omega (arith, some, at)) none) ∙ rw (number_here line number (omega (arith, some, at)) whole worth small) refl)
