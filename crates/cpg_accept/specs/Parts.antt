-- a script of parts: lines that begin one, and the text between them
use Rattle.std.specs.Prelude.{ℕ, List, [], ◌∷◌, codes, Bool, not, is_some, if◌then◌else◌, Option, Some, None}
use Rattle.std.specs.List.{join_with_byte, take_while}
use Rattle.std.specs.Str.{bytes_eq}
use Rattle.cpg_text.specs.Lines.{trimmed}
use Rattle.cpg_conf.specs.Names.{next_number}
use Rattle.cpg_accept.specs.declared.parts.Kind.{Kind}
use Rattle.cpg_accept.specs.declared.parts.Kind.TheVariants.{Names, Conf, Ask}

-- a part: its kind, the number in the script of the line that begins it, and the text after that line
pub record Piece : Type 0 where
  pub kind : Kind
  pub line : ℕ
  pub text : List ℕ

-- the kind of part that a trimmed line begins, where it begins one
abbrev pub head_of : List ℕ → Option Kind
head_of line =
    if bytes_eq line (codes "%names") then Some Names
    else if bytes_eq line (codes "%conf") then Some Conf
    else if bytes_eq line (codes "%ask") then Some Ask
    else None

abbrev pub is_head : List ℕ → Bool
is_head line = is_some (head_of (trimmed line))

-- the text of the lines before the first that begins a part, line feeds between them
abbrev pub text_before : List (List ℕ) → List ℕ
text_before lines = join_with_byte 10 (take_while (λ line. not (is_head line)) lines)

-- the part that a line of that number begins, where it begins one, and then others
abbrev pub part_then : Option Kind → ℕ → List ℕ → List Piece → List Piece
part_then None number text parts = parts
part_then (Some kind) number text parts = record { kind = kind; line = number; text = text } ∷ parts

-- the parts of lines, the first of which has that number
abbrev pub parts_from : ℕ → List (List ℕ) → List Piece
parts_from number [] = []
parts_from number (line ∷ later) = part_then (head_of (trimmed line)) number (text_before later) (parts_from (next_number number) later)
