-- strings are read again
use Rattle.std.proofs.Common.{◌≡◌, ℕ, zero, suc, ◌+◌, ◌-◌, ◌*◌, ◌/◌, ◌%◌, ◌<◌, ◌≤◌, List, [], ◌∷◌, ◌++◌, length, length-append, codes, Bool, true, false, ◌&&◌, nat_lt, Some, option_map, inl, inr, refl, ap, ◌∙◌, append_assoc, arith}
use Rattle.std.proofs.lemmas.Bool.Decides.{nat_tests}
use Rattle.std.specs.Prelude.{◌==◌, if◌then◌else◌, cond, IsUtf8}
use Rattle.std.specs.List.{flat_map, list_all, AllByRecursion}
use Rattle.std.specs.Char.{digit_value}
use Rattle.std.specs.Char.Escape.{encode_utf16}
use Rattle.std.specs.Str.{chars}
use Rattle.std.proofs.Math.Utf8.{scalar, scalars, scalar_cases}
use Rattle.std.proofs.lemmas.Str.{scalars-chars}
use Rattle.std.specs.Fmt.{digit_glyph}
use Rattle.cpg_json.specs.Reading.{bytes_in, is_printable, string_of}
use Rattle.cpg_json.specs.Strings.{hex_byte, is_plain, json_string, string_byte, string_char, text_string, unit_escape}

-- a glyph is the digit that it was written for
digit_back : (d : ℕ) → d < 16 → (digit_value (digit_glyph false d) ≡ d) × (nat_lt d 16 ≡ true)
digit_back d small = (grind (arith, nat_tests), grind (arith, nat_tests))

-- an escape stands for its byte
escape_first : (most b : ℕ) (rest : List ℕ) → b < 256 → bytes_in (suc most) ((codes "\\u00" ++ hex_byte b) ++ rest) ≡ option_map (λ bytes. b ∷ bytes) (bytes_in most rest)
escape_first most b rest small =
    let whole : 16 * (b / 16) + b % 16 ≡ b = omega arith in
    let high = digit_back (b / 16) (omega arith) in
    let low = digit_back (b % 16) (omega arith) in
    rw (high.0, low.0, high.1, low.1, whole) refl

-- a plain byte stands for itself
plain_first : (most b : ℕ) (rest : List ℕ) → is_plain b ≡ true → bytes_in (suc most) (b ∷ rest) ≡ option_map (λ bytes. b ∷ bytes) (bytes_in most rest)
plain_first most b rest plain =
    let quote : (b == 34) ≡ false = grind (arith, nat_tests) in
    let slash : (b == 92) ≡ false = grind (arith, nat_tests) in
    rw (quote, slash) refl

byte_first : (most b : ℕ) (rest : List ℕ) → b < 256 → bytes_in (suc most) (string_byte b ++ rest) ≡ option_map (λ bytes. b ∷ bytes) (bytes_in most rest)
byte_first most b rest small = by_test (is_plain b) refl
  where
    by_test : (p : Bool) → is_plain b ≡ p → bytes_in (suc most) ((if p then b ∷ [] else codes "\\u00" ++ hex_byte b) ++ rest) ≡ option_map (λ bytes. b ∷ bytes) (bytes_in most rest)
    by_test false e = escape_first most b rest small
    by_test true e = plain_first most b rest e

-- what is escaped is read again
escaped_back : (most : ℕ) (bytes : List ℕ) → AllByRecursion (λ b. b < 256) bytes → length bytes < most → bytes_in most (flat_map string_byte bytes ++ codes "\"") ≡ Some bytes
escaped_back zero bytes small fewer = absurd (omega (arith, fewer))
escaped_back (suc most) [] small fewer = refl
escaped_back (suc most) (b ∷ bs) small fewer =
    ap (bytes_in (suc most)) (append_assoc (string_byte b) (flat_map string_byte bs) (codes "\""))
    ∙ byte_first most b (flat_map string_byte bs ++ codes "\"") small.0
    ∙ ap (option_map (λ bytes. b ∷ bytes)) (escaped_back most bs small.1 (omega (arith, fewer)))

-- a byte is written as one byte at least
string_byte-length : (b : ℕ) → 1 ≤ length (string_byte b)
string_byte-length b = by_test (is_plain b)
  where
    by_test : (p : Bool) → 1 ≤ length (if p then b ∷ [] else codes "\\u00" ++ hex_byte b)
    by_test false = omega arith
    by_test true = omega arith

no_fewer : (bytes : List ℕ) → length bytes ≤ length (flat_map string_byte bytes)
no_fewer [] = omega arith
no_fewer (b ∷ bs) = omega (arith, no_fewer bs, string_byte-length b, length-append (string_byte b) (flat_map string_byte bs))

pub string_back : (bytes : List ℕ) → AllByRecursion (λ b. b < 256) bytes → string_of (json_string bytes) ≡ Some bytes
string_back bytes small =
    escaped_back (length (flat_map string_byte bytes ++ codes "\"")) bytes small
    (omega (arith, no_fewer bytes, length-append (flat_map string_byte bytes) (codes "\"")))

-- ---- printable

list_all-append : (p : ℕ → Bool) (a b : List ℕ) → list_all p a ≡ true → list_all p b ≡ true → list_all p (a ++ b) ≡ true
list_all-append p [] b first second = second
list_all-append p (x ∷ a) b first second = by_test (p x) first (λ all. list_all-append p a b all second)
  where
    by_test : (t : Bool) → (t && list_all p a) ≡ true → (list_all p a ≡ true → list_all p (a ++ b) ≡ true) → (t && list_all p (a ++ b)) ≡ true
    by_test true all rest = rest all
    by_test false all rest = absurd (cc)

glyph_printable : (d : ℕ) → d < 16 → is_printable (digit_glyph false d) ≡ true
glyph_printable d small = grind (arith, nat_tests)

byte_printable : (b : ℕ) → b < 256 → list_all is_printable (string_byte b) ≡ true
byte_printable b small = by_test (is_plain b) refl
  where
    by_test : (p : Bool) → is_plain b ≡ p → list_all is_printable (if p then b ∷ [] else codes "\\u00" ++ hex_byte b) ≡ true
    by_test true e = let here : is_printable b ≡ true = grind (arith, nat_tests) in rw here refl
    by_test false e = rw (glyph_printable (b / 16) (omega arith), glyph_printable (b % 16) (omega arith)) refl

bytes_printable : (bytes : List ℕ) → AllByRecursion (λ b. b < 256) bytes → list_all is_printable (flat_map string_byte bytes) ≡ true
bytes_printable [] small = refl
bytes_printable (b ∷ bs) small = list_all-append is_printable (string_byte b) (flat_map string_byte bs) (byte_printable b small.0) (bytes_printable bs small.1)

pub string_printable : (bytes : List ℕ) → AllByRecursion (λ b. b < 256) bytes → list_all is_printable (json_string bytes) ≡ true
string_printable bytes small = list_all-append is_printable (flat_map string_byte bytes) (codes "\"") (bytes_printable bytes small) refl

-- the same of characters
unit_printable : (u : ℕ) → u < 65536 → list_all is_printable (unit_escape u) ≡ true
unit_printable u small =
    rw (glyph_printable (u / 256 / 16) (omega arith), glyph_printable (u / 256 % 16) (omega arith), glyph_printable (u % 256 / 16) (omega arith), glyph_printable (u % 256 % 16) (omega arith)) refl

units_printable : (c : ℕ) → c < 1114112 → list_all is_printable (flat_map unit_escape (encode_utf16 c)) ≡ true
units_printable c small = by_test (nat_lt c 65536) refl
  where
    two : ℕ → ℕ → List ℕ
    two first second = unit_escape first ++ (unit_escape second ++ [])

    by_test : (t : Bool) → nat_lt c 65536 ≡ t → list_all is_printable (flat_map unit_escape (cond t (c ∷ []) ((0xD800 + (c - 0x10000) / 0x400) ∷ (0xDC00 + (c - 0x10000) % 0x400) ∷ []))) ≡ true
    by_test true e =
        let low : c < 65536 = grind (arith, nat_tests) in
        list_all-append is_printable (unit_escape c) [] (unit_printable c low) refl
    by_test false e =
        list_all-append is_printable (unit_escape (0xD800 + (c - 0x10000) / 0x400)) (unit_escape (0xDC00 + (c - 0x10000) % 0x400) ++ []) (unit_printable (0xD800 + (c - 0x10000) / 0x400) (omega (arith, small)))
        (list_all-append is_printable (unit_escape (0xDC00 + (c - 0x10000) % 0x400)) [] (unit_printable (0xDC00 + (c - 0x10000) % 0x400) (omega arith)) refl)

char_printable : (c : ℕ) → c < 1114112 → list_all is_printable (string_char c) ≡ true
char_printable c small = by_test (is_plain c) refl
  where
    by_test : (p : Bool) → is_plain c ≡ p → list_all is_printable (if p then c ∷ [] else flat_map unit_escape (encode_utf16 c)) ≡ true
    by_test true e = let here : is_printable c ≡ true = grind (arith, nat_tests) in rw here refl
    by_test false e = units_printable c small

-- the code of a character
few : (c : ℕ) → scalar c ≡ true → c < 1114112
few c is = elim (scalar_cases c is) [
  | inl low ↦ omega (arith, low)
  | inr high ↦ high.1
]

and_then : (p q : Bool) → (p && q) ≡ true → (p ≡ true) × (q ≡ true)
and_then true q all = (refl, all)
and_then false q all = absurd (cc)

chars_printable : (cs : List ℕ) → scalars cs ≡ true → list_all is_printable (flat_map string_char cs) ≡ true
chars_printable [] are = refl
chars_printable (c ∷ cs) are =
    let parts = and_then (scalar c) (scalars cs) are in
    list_all-append is_printable (string_char c) (flat_map string_char cs) (char_printable c (few c parts.0)) (chars_printable cs parts.1)

pub text_printable : (bytes : List ℕ) → IsUtf8 bytes → list_all is_printable (text_string bytes) ≡ true
text_printable bytes are = list_all-append is_printable (flat_map string_char (chars bytes)) (codes "\"") (chars_printable (chars bytes) (scalars-chars bytes are)) refl
