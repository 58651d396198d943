-- objects of JSON as text
use Rattle.std.specs.Prelude.{ℕ, List, [], ◌∷◌, ◌++◌, codes, decimal, Option, Some, None}
use Rattle.std.specs.List.{flat_map}

-- a value under its name
unfoldable pub field : List ℕ → List ℕ → List ℕ
field name value = codes "\"" ++ name ++ codes "\":" ++ value

-- an item after others
unfoldable pub after_comma : List ℕ → List ℕ
after_comma item = codes "," ++ item

-- items, each after others
abbrev pub more : List (List ℕ) → List ℕ
more items = flat_map after_comma items

-- items with commas between them
abbrev pub joined : List (List ℕ) → List ℕ
joined [] = []
joined (first ∷ others) = first ++ more others

-- fields in braces
abbrev pub object : List (List ℕ) → List ℕ
object fields = codes "{" ++ joined fields ++ codes "}"

-- values in brackets
abbrev pub array : List (List ℕ) → List ℕ
array values = codes "[" ++ joined values ++ codes "]"

-- a word of this form's own, as a string
unfoldable pub word : List ℕ → List ℕ
word text = codes "\"" ++ text ++ codes "\""

-- the field of a number
abbrev pub number : List ℕ → ℕ → List ℕ
number name value = field name (decimal value)

-- the first field, which says what the object is
abbrev pub kind : List ℕ → List ℕ
kind name = field (codes "kind") (word name)

-- the first fields of an object: what it is, and the text of those that stand at its head, each after a comma
abbrev pub head_of : List ℕ → List ℕ → List ℕ
head_of name head = kind name ++ head

-- a number, or `null` where there is none
abbrev pub number_or_null : Option ℕ → List ℕ
number_or_null None = codes "null"
number_or_null (Some value) = decimal value

-- the field of a number that may not be there
abbrev pub maybe : List ℕ → Option ℕ → List ℕ
maybe name value = field name (number_or_null value)

-- an object alone on its line
abbrev pub line : List (List ℕ) → List ℕ
line fields = object fields ++ codes "\n"
