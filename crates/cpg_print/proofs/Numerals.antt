-- a number that is printed is read as that number again
use Rattle.std.proofs.Common.{◌≡◌, ℕ, ◌<◌, ◌^◌, List, [], ◌∷◌, length, true, ◌&&◌, not, nat_le, nat_lt, Some, refl, sym, ap, ◌∙◌, arith}
use Rattle.std.proofs.lemmas.Bool.Decides.{nat_tests}
use Rattle.std.proofs.lemmas.Fmt.{decimal_nonempty, digits_decimal, digits_value-decimal}
use Rattle.std.proofs.lemmas.Str.Parse.{IsNumeralModel, numerals_by_fold, tells_all_ascii_digits}
use Rattle.std.specs.Prelude.{◌==◌, decimal}
use Rattle.std.specs.Char.{is_ascii_digit}
use Rattle.std.specs.List.{list_all}
use Rattle.std.specs.Str.{all_ascii_digits}
use Rattle.cpg_entry.specs.Names.{is_name_byte}
use Rattle.cpg_entry.specs.Ranges.{Within}
use Rattle.cpg_text.specs.Numbers.{value_after, value_of, is_number, number_in}
use Rattle.cpg_print.proofs.Spacing.{is_word, lacks, passes_also}

-- the number of digits, read from the left
reads : IsNumeralModel (λ ds. all_ascii_digits ds ≡ true) value_of
reads = numerals_by_fold (λ ds. all_ascii_digits ds ≡ true) tells_all_ascii_digits value_after (record { empty = λ n. refl; more = λ n c cs k. refl })

-- the same test by the list's own word
all_digits : (ds : List ℕ) → all_ascii_digits ds ≡ list_all is_ascii_digit ds
all_digits [] = refl
all_digits (d ∷ ds) = ap (λ rest. is_ascii_digit d && rest) (all_digits ds)

-- a number that is printed is digits alone
pub decimal_digits : (n : ℕ) → n < 2 ^ 64 → list_all is_ascii_digit (decimal n) ≡ true
decimal_digits n small = sym (all_digits (decimal n)) ∙ digits_decimal reads n small

decimal_some : (n : ℕ) → n < 2 ^ 64 → nat_lt 0 (length (decimal n)) ≡ true
decimal_some n small = let some = decimal_nonempty n small in grind (arith, nat_tests)

-- a number that is printed is read as that number, where it is in the range
pub number_back : (low high n : ℕ) → n < 2 ^ 64 → Within low high n → number_in low high (decimal n) ≡ Some n
number_back low high n small within =
    let above : nat_le low n ≡ true = let h = within.0 in grind (arith, nat_tests) in
    let below : nat_le n high ≡ true = let h = within.1 in grind (arith, nat_tests) in
    let is : is_number (decimal n) ≡ true = rw (decimal_some n small, decimal_digits n small) refl in
    rw (digits_value-decimal reads n small, is, above, below) refl

digit_printed : (byte : ℕ) → is_ascii_digit byte ≡ true → is_name_byte byte ≡ true
digit_printed byte e = grind (arith, nat_tests)

-- the printing characters of a number
pub decimal_printed : (n : ℕ) → n < 2 ^ 64 → list_all is_name_byte (decimal n) ≡ true
decimal_printed n small = passes_also is_ascii_digit is_name_byte digit_printed (decimal n) (decimal_digits n small)

-- a number that is printed is a word
pub decimal_word : (n : ℕ) → n < 2 ^ 64 → is_word (decimal n) ≡ true
decimal_word n small = rw (decimal_some n small, decimal_printed n small) refl

-- a separator that is no digit is not in a number
pub decimal_lacks : (separator n : ℕ) → separator < 48 → n < 2 ^ 64 → lacks separator (decimal n) ≡ true
decimal_lacks separator n low small = passes_also is_ascii_digit (λ byte. not (byte == separator)) other (decimal n) (decimal_digits n small)
  where
    other : (byte : ℕ) → is_ascii_digit byte ≡ true → not (byte == separator) ≡ true
    other byte e = grind (arith, nat_tests)
