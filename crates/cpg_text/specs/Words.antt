-- small words: numbers within ranges, lists, and words that are cut at a byte
use Rattle.std.specs.Prelude.{ℕ, ◌+◌, List, [], ◌∷◌, ◌++◌, length, take, drop, codes, ◌==◌, Option, Some, None, option_map, if◌then◌else◌}
use Rattle.std.specs.List.{flat_map, position}
use Rattle.std.specs.Str.{bytes_eq}
use Rattle.std.specs.Option.{option_and_then}
use Rattle.cpg_text.specs.Numbers.{number_in}

-- and then, if there is one
infixl 10 ◌>>=◌
abbrev pub ◌>>=◌ : {A B : Type 0} → Option A → (A → Option B) → Option B
o >>= f = option_and_then f o

-- a number of 32 bits
abbrev pub u32_of : List ℕ → Option ℕ
u32_of word = number_in 0 4294967295 word

-- the texts of the items joined by commas, and `-` where there is no item
abbrev pub listed : {A : Type 0} → (A → List ℕ) → List A → List ℕ
listed text [] = codes "-"
listed text (first ∷ others) = text first ++ flat_map (λ item. codes "," ++ text item) others

-- what stands before and after the first such byte, where there is one
abbrev pub cut_at : ℕ → List ℕ → Option (List ℕ × List ℕ)
cut_at separator word = option_map (λ end. (take end word, drop (end + 1) word)) (position (λ byte. byte == separator) word)

-- what follows the name at the word's front
abbrev pub after_name : List ℕ → List ℕ → Option (List ℕ)
after_name name word = if bytes_eq (take (length name) word) name then Some (drop (length name) word) else None
