use Rattle.std.proofs.Common.{◌≡◌, ℕ, ◌+◌, ◌*◌, ◌/◌, ◌%◌, ◌<◌, List, [], ◌∷◌, ◌++◌, Bool, true, false, nat_lt, Some, refl, ap, ◌∙◌, arith}
use Rattle.std.proofs.lemmas.Bool.Decides.{nat_tests}
use Rattle.std.specs.Prelude.{◌==◌, if◌then◌else◌}
use Rattle.std.specs.List.{AllByRecursion}
use Rattle.std.specs.Char.{digit_value}
use Rattle.std.specs.Fmt.{digit_glyph}
use Rattle.std.proofs.Common.{length, ◌≤◌, length-append}
use Rattle.cpg_text.specs.Percent.{message_of, text_of, decoded, encoded, encoded_byte, is_plain, escape, before}

-- a glyph is the digit that it was written for
pub glyph_value : (d : ℕ) → d < 16 → digit_value (digit_glyph true d) ≡ d
glyph_value d small = grind (arith, nat_tests)

-- a byte that is no `%` stands for itself, whatever follows
pub plain_first : (b : ℕ) (rest : List ℕ) → (b == 37) ≡ false → decoded (b ∷ rest) ≡ before b (decoded rest)
plain_first b [] e = rw e refl
plain_first b (c ∷ []) e = rw e refl
plain_first b (c ∷ d ∷ rest) e = rw e refl

-- an escape stands for its byte
pub escape_first : (b : ℕ) (rest : List ℕ) → b < 256 → decoded (escape b ++ rest) ≡ before b (decoded rest)
escape_first b rest small =
    let high = glyph_value (b / 16) (omega arith) in
    let low = glyph_value (b % 16) (omega arith) in
    let one : nat_lt (b / 16) 16 ≡ true = grind (arith, nat_tests) in
    let two : nat_lt (b % 16) 16 ≡ true = grind (arith, nat_tests) in
    let whole : 16 * (b / 16) + b % 16 ≡ b = omega arith in
    rw (high, low, one, two, whole) refl

pub byte_first : (b : ℕ) (rest : List ℕ) → b < 256 → decoded (encoded_byte b ++ rest) ≡ before b (decoded rest)
byte_first b rest small = by_test (is_plain b) refl
  where
    by_test : (p : Bool) → is_plain b ≡ p → decoded ((if p then b ∷ [] else escape b) ++ rest) ≡ before b (decoded rest)
    by_test false e = escape_first b rest small
    by_test true e = plain_first b rest (grind (arith, nat_tests))

-- what is encoded is decoded again
pub decoded_encoded : (bytes : List ℕ) → AllByRecursion (λ b. b < 256) bytes → decoded (encoded bytes) ≡ Some bytes
decoded_encoded [] small = refl
decoded_encoded (b ∷ bs) small = byte_first b (encoded bs) small.0 ∙ ap (before b) (decoded_encoded bs small.1)

-- a byte is spelled by one byte at least
pub encoded_byte-length : (b : ℕ) → 1 ≤ length (encoded_byte b)
encoded_byte-length b = by_test (is_plain b)
  where
    by_test : (p : Bool) → 1 ≤ length (if p then b ∷ [] else escape b)
    by_test false = omega arith
    by_test true = omega arith

-- a word of two bytes or more is read byte by byte
pub message_of_long : (text : List ℕ) → 2 ≤ length text → message_of text ≡ decoded text
message_of_long [] long = absurd (omega arith)
message_of_long (b ∷ []) long = absurd (omega arith)
message_of_long (b ∷ c ∷ rest) long = refl

-- two bytes or more are spelled by as many at least
pub encoded_long : (b c : ℕ) (rest : List ℕ) → 2 ≤ length (encoded (b ∷ c ∷ rest))
encoded_long b c rest =
    simp length-append (omega (arith, encoded_byte-length b, encoded_byte-length c))

-- a message of one byte that is no `-`
pub one_byte : (b : ℕ) → b < 256 → (b == 45) ≡ false → message_of (encoded (b ∷ [])) ≡ Some (b ∷ [])
one_byte b small e = by_test (is_plain b) refl
  where
    by_test : (p : Bool) → is_plain b ≡ p → message_of ((if p then b ∷ [] else escape b) ++ []) ≡ Some (b ∷ [])
    by_test false q = escape_first b [] small
    by_test true q = let n : (b == 37) ≡ false = grind (arith, nat_tests) in rw (e, n) refl

-- what is spelled of a message is read as that message again
pub message_of_text_of : (message : List ℕ) → AllByRecursion (λ b. b < 256) message → message_of (text_of message) ≡ Some message
message_of_text_of [] small = refl
message_of_text_of (b ∷ []) small = by_test (b == 45) refl
  where
    by_test : (p : Bool) → (b == 45) ≡ p → message_of (if p then escape b else encoded (b ∷ [])) ≡ Some (b ∷ [])
    by_test false e = one_byte b small.0 e
    by_test true e = escape_first b [] small.0
message_of_text_of (b ∷ c ∷ rest) small =
    message_of_long (encoded (b ∷ c ∷ rest)) (encoded_long b c rest) ∙ decoded_encoded (b ∷ c ∷ rest) small
