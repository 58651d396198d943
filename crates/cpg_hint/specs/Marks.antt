-- a line as it is shown, and a mark under a place of it
use Rattle.std.specs.Prelude.{ℕ, ◌+◌, ◌/◌, ◌%◌, true, List, [], ◌∷◌, ◌++◌, length, take, codes, decimal, ◌&&◌, nat_le, if◌then◌else◌}
use Rattle.std.specs.List.{flat_map}
use Rattle.std.specs.Fmt.{digit_glyph}
use Rattle.cpg_hint.specs.declared.marks.TheConstants.{MOST_SHOWN}

-- a byte of 0x20 to 0x7E as itself, any other as `\x` and two upper-case hexadecimal digits
abbrev pub escaped_byte : ℕ → List ℕ
escaped_byte byte = if nat_le 32 byte && nat_le byte 126 then byte ∷ [] else 92 ∷ 120 ∷ digit_glyph true (byte / 16) ∷ digit_glyph true (byte % 16) ∷ []

-- bytes, each as itself or escaped
abbrev pub escaped : List ℕ → List ℕ
escaped bytes = flat_map escaped_byte bytes

-- the first 120 characters, and three dots where there are more
abbrev pub cut_short : List ℕ → List ℕ
cut_short text = if nat_le (length text) MOST_SHOWN then text else take MOST_SHOWN text ++ codes "..."

-- a line as it stands, escaped and cut: of its first bytes, of which each is one character at least
abbrev pub shown : List ℕ → List ℕ
shown line = cut_short (escaped (take (MOST_SHOWN + 1) line))

-- what stands before the line or the word of that number, which is named so
abbrev pub front_text : List ℕ → ℕ → List ℕ
front_text name number = name ++ decimal number ++ codes ": "

-- what stands before the line
abbrev pub number_text : ℕ → List ℕ
number_text number = front_text (codes "line ") number

-- a space for each character
abbrev pub blanks : List ℕ → List ℕ
blanks text = flat_map (λ character. 32 ∷ []) text

-- the line's end, and under what stands before the place a mark with a phrase behind it
abbrev pub mark_under : List ℕ → List ℕ → List ℕ
mark_under before phrase = codes "\n" ++ blanks before ++ codes "^ " ++ phrase ++ codes "\n"

-- the line of that number as it is shown, and under it a mark at the place among its bytes, with a phrase behind it
abbrev pub marked : ℕ → List ℕ → ℕ → List ℕ → List ℕ
marked number line place phrase =
    number_text number ++ shown line ++ mark_under (number_text number ++ shown (take place line)) phrase
