-- bytes as strings of JSON: each line is plain ASCII, whatever the bytes are
use Rattle.std.specs.Prelude.{ℕ, ◌/◌, ◌%◌, List, [], ◌∷◌, ◌++◌, codes, Bool, false, ◌&&◌, ◌==◌, not, nat_le, if◌then◌else◌}
use Rattle.std.specs.List.{flat_map}
use Rattle.std.specs.Char.Escape.{encode_utf16}
use Rattle.std.specs.Fmt.{digit_glyph}
use Rattle.std.specs.Str.{chars}

-- 0x20 to 0x7E other than `"` and `\`
abbrev pub is_plain : ℕ → Bool
is_plain byte = nat_le 32 byte && nat_le byte 126 && not (byte == 34) && not (byte == 92)

-- two hexadecimal digits, letters in lower case
abbrev pub hex_byte : ℕ → List ℕ
hex_byte byte = digit_glyph false (byte / 16) ∷ digit_glyph false (byte % 16) ∷ []

-- a byte as itself, or as `\u00` and its two hexadecimal digits
abbrev pub string_byte : ℕ → List ℕ
string_byte byte = if is_plain byte then byte ∷ [] else codes "\\u00" ++ hex_byte byte

-- bytes between quotes, each as itself or escaped
abbrev pub json_string : List ℕ → List ℕ
json_string bytes = codes "\"" ++ flat_map string_byte bytes ++ codes "\""

-- a unit of UTF-16 as `\u` and its four hexadecimal digits
abbrev pub unit_escape : ℕ → List ℕ
unit_escape unit = codes "\\u" ++ hex_byte (unit / 256) ++ hex_byte (unit % 256)

-- a character as itself, or its one or two units of UTF-16 escaped
abbrev pub string_char : ℕ → List ℕ
string_char c = if is_plain c then c ∷ [] else flat_map unit_escape (encode_utf16 c)

-- the characters that bytes are the UTF-8 of between quotes, each as itself or escaped
abbrev pub text_string : List ℕ → List ℕ
text_string bytes = codes "\"" ++ flat_map string_char (chars bytes) ++ codes "\""

-- bytes between quotes, each as two hexadecimal digits
abbrev pub hex_string : List ℕ → List ℕ
hex_string bytes = codes "\"" ++ flat_map hex_byte bytes ++ codes "\""
