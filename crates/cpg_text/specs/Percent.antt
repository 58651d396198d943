-- messages as words: a byte stands for itself, `%` and two hexadecimal digits for any byte, `-` alone for
-- the empty message
use Rattle.std.specs.Prelude.{true, ℕ, ◌+◌, ◌*◌, ◌/◌, ◌%◌, List, [], ◌∷◌, Bool, ◌&&◌, ◌==◌, not, nat_le, if◌then◌else◌, Option, Some, None, option_map}
use Rattle.std.specs.List.{flat_map}
use Rattle.std.specs.Char.{is_digit, digit_value}
use Rattle.std.specs.Fmt.{digit_glyph}

-- the byte, and then what follows it, if that can be read
abbrev pub before : ℕ → Option (List ℕ) → Option (List ℕ)
before byte more = option_map (λ bytes. byte ∷ bytes) more

-- a byte that stands for itself: any but `%`
abbrev pub itself : ℕ → Option (List ℕ) → Option (List ℕ)
itself byte more = if byte == 37 then None else before byte more

-- the byte that two hexadecimal digits of either case write
abbrev pub escaped : ℕ → ℕ → Option (List ℕ) → Option (List ℕ)
escaped high low more = if is_digit high 16 && is_digit low 16 then before (16 * digit_value high + digit_value low) more else None

-- the bytes that a text stands for, unless a `%` lacks its two digits
abbrev pub decoded : List ℕ → Option (List ℕ)
decoded [] = Some []
decoded (byte ∷ []) = itself byte (Some [])
decoded (byte ∷ next ∷ []) = itself byte (decoded (next ∷ []))
decoded (byte ∷ high ∷ low ∷ rest) = if byte == 37 then escaped high low (decoded rest) else before byte (decoded (high ∷ low ∷ rest))

-- the message that a word spells; the empty word spells none
abbrev pub message_of : List ℕ → Option (List ℕ)
message_of [] = None
message_of (byte ∷ []) = if byte == 45 then Some [] else itself byte (Some [])
message_of (byte ∷ next ∷ rest) = decoded (byte ∷ next ∷ rest)

-- 0x21 to 0x7E other than `%`
abbrev pub is_plain : ℕ → Bool
is_plain byte = nat_le 33 byte && nat_le byte 126 && not (byte == 37)

-- `%` and two upper-case digits
abbrev pub escape : ℕ → List ℕ
escape byte = 37 ∷ digit_glyph true (byte / 16) ∷ digit_glyph true (byte % 16) ∷ []

-- a byte as itself or escaped
abbrev pub encoded_byte : ℕ → List ℕ
encoded_byte byte = if is_plain byte then byte ∷ [] else escape byte

-- bytes, each as itself or escaped
abbrev pub encoded : List ℕ → List ℕ
encoded bytes = flat_map encoded_byte bytes

-- the word that is printed of a message: `-` for the empty one, and `%2D` for the one of the byte 0x2D alone
abbrev pub text_of : List ℕ → List ℕ
text_of [] = 45 ∷ []
text_of (byte ∷ []) = if byte == 45 then escape byte else encoded (byte ∷ [])
text_of (byte ∷ next ∷ rest) = encoded (byte ∷ next ∷ rest)
