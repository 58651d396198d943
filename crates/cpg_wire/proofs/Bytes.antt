-- From bytes to a number and back.
use Rattle.std.proofs.Common.{◌≡◌, ℕ, zero, suc, ◌+◌, ◌*◌, ◌^◌, ◌<◌, ◌≤◌, List, [], ◌∷◌, length, take, ◌⊎◌, inl, inr, sym, ap, ◌∙◌, append-nil, arith}
use Rattle.std.proofs.Math.Nat.{add-mul, mod-lt, mul-le-mul_right}
use Rattle.std.proofs.lemmas.Bool.{cases_lt}
use Rattle.std.proofs.lemmas.List.{length-take, nil_from_length}
use Rattle.std.specs.Int.{byte_at}
use Rattle.byteorder.specs.Endian.{big_from, big_number, big_bytes}
use Rattle.byteorder.specs.Numbers.{big_from-cons, big_from-lt, big_from-take, big_number-reads_back, length-bytes_high_first}
use Rattle.cpg_wire.proofs.Readers.{IsBytes, IsBytes-take, IsBytes-rest}

byte_below : (place x : ℕ) → byte_at place x < 256
byte_below zero x = mod-lt x (omega arith)
byte_below (suc place) x = mod-lt _ (omega arith)

bytes_below : (count x : ℕ) → IsBytes (big_bytes count x)
bytes_below zero x i = omega arith
bytes_below (suc count) x zero = byte_below count x
bytes_below (suc count) x (suc i) = bytes_below count x i

-- of two numbers with two digits the higher digits are alike where the numbers are
same_high : (a b m r s : ℕ) → r < m → s < m → a * m + r ≡ b * m + s → a ≡ b
same_high a b m r s low lower same =
    elim (cases_lt a b) [
      | inl lt ↦ let step : (a + 1) * m ≤ b * m = mul-le-mul_right m (omega arith) in absurd (omega (arith, step, add-mul a 1 m, same))
      | inr le ↦ at_most le (cases_lt b a)
    ]
  where
    at_most : b ≤ a → (b < a) ⊎ (a ≤ b) → a ≡ b
    at_most le (inl lt) = let step : (b + 1) * m ≤ a * m = mul-le-mul_right m (omega arith) in absurd (omega (arith, step, add-mul b 1 m, same))
    at_most le (inr more) = omega arith

-- lists of as many bytes are alike where their numbers are, if a number has the first byte and the others' number
pub same_bytes : (number : ℕ → List ℕ → ℕ) → ((count x y : ℕ) (xs ys : List ℕ) → IsBytes (x ∷ xs) → IsBytes (y ∷ ys) → number (suc count) (x ∷ xs) ≡ number (suc count) (y ∷ ys) → (x ≡ y) × (number count xs ≡ number count ys)) → (count : ℕ) (xs ys : List ℕ) → length xs ≡ count → length ys ≡ count → IsBytes xs → IsBytes ys → number count xs ≡ number count ys → xs ≡ ys
same_bytes number parts zero xs ys lx ly fx fy same = nil_from_length xs lx ∙ sym (nil_from_length ys ly)
same_bytes number parts (suc count) [] ys lx ly fx fy same = absurd (omega (arith, lx))
same_bytes number parts (suc count) (x ∷ xs) [] lx ly fx fy same = absurd (omega (arith, ly))
same_bytes number parts (suc count) (x ∷ xs) (y ∷ ys) lx ly fx fy same =
    let p = parts count x y xs ys fx fy same in
    ap (λ (b : ℕ). b ∷ xs) p.0 ∙ ap (λ (bs : List ℕ). y ∷ bs) (same_bytes number parts count xs ys (omega (arith, lx)) (omega (arith, ly)) (IsBytes-rest x xs fx) (IsBytes-rest y ys fy) p.1)

-- a number with the highest byte first has them
same_parts : (count x y : ℕ) (xs ys : List ℕ) → IsBytes (x ∷ xs) → IsBytes (y ∷ ys) → big_number (suc count) (x ∷ xs) ≡ big_number (suc count) (y ∷ ys) → (x ≡ y) × (big_number count xs ≡ big_number count ys)
same_parts count x y xs ys fx fy same =
    let rest_x = big_from-cons 0 count x xs in
    let rest_y = big_from-cons 0 count y ys in
    let low_x = big_from-lt 0 count xs (IsBytes-rest x xs fx) in
    let low_y = big_from-lt 0 count ys (IsBytes-rest y ys fy) in
    let whole : x * 256 ^ count + big_from 0 count xs ≡ y * 256 ^ count + big_from 0 count ys =
    sym (ap (λ (n : ℕ). x * 256 ^ count + n) rest_x) ∙ same ∙ ap (λ (n : ℕ). y * 256 ^ count + n) rest_y in
    let high : x ≡ y = same_high x y (256 ^ count) (big_from 0 count xs) (big_from 0 count ys) low_x low_y whole in
    let shared : x * 256 ^ count ≡ y * 256 ^ count = ap (λ (n : ℕ). n * 256 ^ count) high in
    (high, omega (arith, whole, shared))

-- the bytes of the number in the first bytes are those bytes
pub bytes_of_number : (count : ℕ) (bytes : List ℕ) → count ≤ length bytes → IsBytes bytes → big_bytes count (big_number count bytes) ≡ take count bytes
bytes_of_number count bytes long fits =
    let number = big_number count bytes in
    let back : big_number count (big_bytes count number) ≡ number =
    ap (big_number count) (sym (append-nil (big_bytes count number))) ∙ big_number-reads_back count number [] (big_from-lt 0 count bytes fits) in
    same_bytes big_number same_parts count (big_bytes count number) (take count bytes) (length-bytes_high_first count number) (omega (arith, length-take count bytes)) (bytes_below count number) (IsBytes-take count bytes fits)
    (back ∙ sym (big_from-take 0 count count bytes (omega arith)))
