-- what stands at the head of an object: the number of the script's line that it answers, and what is asked for beside it
use Rattle.std.specs.Prelude.{ℕ, ◌+◌, ◌-◌, List, [], ◌∷◌, ◌++◌, map, codes, decimal, Option, Some, None}
use Rattle.std.specs.List.{range_with_len}
use Rattle.cpg_json.specs.Objects.{array, field, more, number, word}
use Rattle.cpg_json.specs.declared.marks.Marks.{Marks}
use Rattle.cpg_json.specs.declared.marks.Marks.TheVariants.{Echo, Numbers}

-- ---- lines

-- the number of a line, where there is one
abbrev pub line_fields : Option ℕ → List (List ℕ)
line_fields None = []
line_fields (Some n) = number (codes "line") n ∷ []

-- the head of an answer to that line
abbrev pub line_head : ℕ → List ℕ
line_head n = more (line_fields (Some n))

-- ---- heads

-- the number of a line and what its command is of, as `step --echo` has them before a line
abbrev pub echo_words : ℕ → List ℕ → List ℕ
echo_words n of = decimal n ++ codes " " ++ of

-- the numbers of the frames that were sent after so many, up to so many
abbrev pub frames_between : ℕ → ℕ → List ℕ
frames_between before last = range_with_len (before + 1) (last - before)

-- those numbers as a field
abbrev pub numbers_field : ℕ → ℕ → List ℕ
numbers_field before last = field (codes "numbers") (array (map decimal (frames_between before last)))

-- what stands at the head of an answer to that line, whose command is of that
abbrev pub mark_fields : Marks → ℕ → List ℕ → List (List ℕ)
mark_fields Echo n of = number (codes "line") n ∷ field (codes "echo") (word (echo_words n of)) ∷ []
mark_fields _ n of = number (codes "line") n ∷ []

-- and then, where so many frames were sent before the command and so many after it
abbrev pub sent_fields : Marks → ℕ → ℕ → List (List ℕ)
sent_fields Numbers before last = numbers_field before last ∷ []
sent_fields _ before last = []
