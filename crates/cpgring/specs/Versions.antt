-- the commit that the program was built from
use Rattle.std.specs.Prelude.{ℕ, Bool, List, [], ◌++◌, ◌&&◌, ◌||◌, if◌then◌else◌, nat_le, length, codes}
use Rattle.std.specs.Char.{is_ascii_digit}
use Rattle.std.specs.List.{list_all}

-- a hexadecimal digit, in small letters
abbrev pub is_hex : ℕ → Bool
is_hex byte = is_ascii_digit byte || (nat_le 97 byte && nat_le byte 102)

-- as long as the name of a commit may be
abbrev pub is_of_length : List ℕ → Bool
is_of_length word = nat_le 7 (length word) && nat_le (length word) 64

-- the name of a commit, whole or shortened
abbrev pub is_commit : List ℕ → Bool
is_commit word = is_of_length word && list_all is_hex word

-- its line, where the word is one
abbrev pub commit_text : List ℕ → List ℕ
commit_text word = if is_commit word then codes "commit " ++ word ++ codes "\n" else []
