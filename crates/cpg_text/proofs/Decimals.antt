-- a number of two to five digits, digit by digit
use Rattle.std.proofs.Common.{◌≡◌, ℕ, ◌+◌, ◌/◌, ◌%◌, ◌<◌, ◌≤◌, List, [], ◌∷◌, ◌++◌, ap, ◌∙◌, arith}
use Rattle.std.proofs.lemmas.Fmt.{decimal_digit, decimal_step}
use Rattle.std.specs.Fmt.{decimal}

-- the last digit
abbrev last : ℕ → ℕ
last n = 48 + n % 10

-- it stands behind those of the tens
more : (n : ℕ) (digits : List ℕ) → 10 ≤ n → n < 100000 → decimal (n / 10) ≡ digits → decimal n ≡ digits ++ last n ∷ []
more n digits least most tens = decimal_step n least (omega (arith, most)) ∙ ap (λ (d : List ℕ). d ++ last n ∷ []) tens

pub two : (n : ℕ) → 10 ≤ n → n < 100 → decimal n ≡ (48 + n / 10) ∷ (48 + n % 10) ∷ []
two n least most = more n ((48 + n / 10) ∷ []) least (omega (arith, most)) (decimal_digit (n / 10) (omega (arith, most)))

pub three : (n : ℕ) → 100 ≤ n → n < 1000 → decimal n ≡ (48 + n / 10 / 10) ∷ (48 + n / 10 % 10) ∷ (48 + n % 10) ∷ []
three n least most =
    more n ((48 + n / 10 / 10) ∷ last (n / 10) ∷ []) (omega (arith, least)) (omega (arith, most)) (two (n / 10) (omega (arith, least)) (omega (arith, most)))

pub four : (n : ℕ) → 1000 ≤ n → n < 10000
    → decimal n ≡ (48 + n / 10 / 10 / 10) ∷ (48 + n / 10 / 10 % 10) ∷ (48 + n / 10 % 10) ∷ (48 + n % 10) ∷ []
four n least most =
    more n ((48 + n / 10 / 10 / 10) ∷ last (n / 10 / 10) ∷ last (n / 10) ∷ []) (omega (arith, least)) (omega (arith, most))
    (three (n / 10) (omega (arith, least)) (omega (arith, most)))

pub five : (n : ℕ) → 10000 ≤ n → n < 100000
    → decimal n ≡ (48 + n / 10 / 10 / 10 / 10) ∷ (48 + n / 10 / 10 / 10 % 10) ∷ (48 + n / 10 / 10 % 10) ∷ (48 + n / 10 % 10) ∷ (48 + n % 10) ∷ []
five n least most =
    more n ((48 + n / 10 / 10 / 10 / 10) ∷ last (n / 10 / 10 / 10) ∷ last (n / 10 / 10) ∷ last (n / 10) ∷ []) (omega (arith, least)) most
    (four (n / 10) (omega (arith, least)) (omega (arith, most)))
