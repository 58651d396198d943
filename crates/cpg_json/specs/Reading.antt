-- strings of JSON, read again
use Rattle.std.specs.Prelude.{zero, suc, ℕ, ◌+◌, ◌*◌, List, [], ◌∷◌, length, Bool, ◌&&◌, ◌==◌, nat_le, if◌then◌else◌, Option, Some, None, option_map}
use Rattle.std.specs.Char.{is_digit, digit_value}
use Rattle.cpg_text.specs.Words.{◌>>=◌}

-- the byte that `u00` and two hexadecimal digits write, and what follows them
abbrev pub unescaped : List ℕ → Option (ℕ × List ℕ)
unescaped (u ∷ first ∷ second ∷ high ∷ low ∷ rest) =
    if u == 117 && first == 48 && second == 48 && is_digit high 16 && is_digit low 16
    then Some (16 * digit_value high + digit_value low, rest) else None
unescaped _ = None

-- no bytes, where a text ends
abbrev pub ended : List ℕ → Option (List ℕ)
ended [] = Some []
ended (byte ∷ rest) = None

-- the bytes before the closing quote, which ends the text, where there are fewer than that
abbrev pub bytes_in : ℕ → List ℕ → Option (List ℕ)
bytes_in zero text = None
bytes_in (suc most) [] = None
bytes_in (suc most) (byte ∷ rest) =
    if byte == 34 then ended rest
    else if byte == 92 then (unescaped rest >>= λ next. option_map (λ bytes. next.0 ∷ bytes) (bytes_in most next.1))
    else option_map (λ bytes. byte ∷ bytes) (bytes_in most rest)

-- the bytes that a string stands for
abbrev pub string_of : List ℕ → Option (List ℕ)
string_of [] = None
string_of (byte ∷ rest) = if byte == 34 then bytes_in (length rest) rest else None

-- a printable ASCII character, so no line feed
abbrev pub is_printable : ℕ → Bool
is_printable byte = nat_le 32 byte && nat_le byte 126
