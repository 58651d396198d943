-- steps of the reading functions, which no contract of a public function cites
use Rattle.std.specs.Prelude.{◌≡◌, ⊤, Bool, false, not, ℕ, ◌+◌, ◌*◌, ◌-◌, List, [], ◌∷◌, ◌++◌, length, ◌&&◌, nat_le, if◌then◌else◌, Option, Some, None, option_map}
use Rattle.std.specs.Char.{is_ascii_digit}
use Rattle.cpg_text.specs.Lines.{is_blank}
use Rattle.cpg_text.specs.Percent.{is_plain}

-- the number after one digit more, where it is at most `most`
abbrev pub one_more : ℕ → ℕ → ℕ → Option ℕ
one_more most number byte = if is_ascii_digit byte && nat_le (number * 10 + (byte - 48)) most then Some (number * 10 + (byte - 48)) else None

-- the number after all the digits, from the left, where it stays at most `most`
abbrev pub read_on : ℕ → Option ℕ → List ℕ → Option ℕ
read_on most None word = None
read_on most (Some number) [] = Some number
read_on most (Some number) (byte ∷ word) = read_on most (one_more most number byte) word

-- the number after one digit more, however great it is
abbrev pub one_digit : ℕ → ℕ → Option ℕ
one_digit number byte = if is_ascii_digit byte then Some (number * 10 + (byte - 48)) else None

-- the number after all the digits, from the left, however great it is
abbrev pub read_digits : Option ℕ → List ℕ → Option ℕ
read_digits None word = None
read_digits (Some number) [] = Some number
read_digits (Some number) (byte ∷ word) = read_digits (one_digit number byte) word

-- bytes, and then what the rest stands for
abbrev pub after : List ℕ → Option (List ℕ) → Option (List ℕ)
after front more = option_map (λ bytes. front ++ bytes) more

-- the line does not begin with a blank
abbrev pub StartsWord : List ℕ → Type 0
StartsWord [] = ⊤
StartsWord (byte ∷ rest) = is_blank byte ≡ false

-- so many bytes, and then those that the rest stands for
abbrev pub counted_after : ℕ → Option (List ℕ) → Option ℕ
counted_after count more = option_map (λ bytes. count + length bytes) more

-- a byte that can't stand for itself
abbrev pub is_odd : ℕ → Bool
is_odd byte = not (is_plain byte)

-- a byte from which 38 was taken that stands for itself, and is none from `!` to `$`
abbrev pub is_low : ℕ → Bool
is_low distance = nat_le distance 88
