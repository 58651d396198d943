-- where a line of a conf text stands, by the lines before it, the nearest of them first
use Rattle.std.specs.Prelude.{ℕ, ◌-◌, ◌==◌, List, [], ◌∷◌, length, codes, Bool, true, false, ◌&&◌, if◌then◌else◌}
use Rattle.std.specs.List.{filter}
use Rattle.std.specs.Str.{bytes_eq}
use Rattle.cpg_conf.specs.Lines.{Line, Close, Open}
use Rattle.cpg_conf.specs.Names.{next_number}

abbrev pub is_open : Line → Bool
is_open (Open name) = true
is_open _ = false

abbrev pub is_close : Line → Bool
is_close Close = true
is_close _ = false

abbrev pub opens : List Line → ℕ
opens before = length (filter is_open before)

abbrev pub closes : List Line → ℕ
closes before = length (filter is_close before)

-- the opens less the closes
abbrev pub depth : List Line → ℕ
depth before = opens before - closes before

-- the name of the last open that stands at depth 0
abbrev pub section : List Line → List ℕ
section [] = []
section (Open name ∷ before) = if depth before == 0 then name else section before
section (line ∷ before) = section before

-- keys are read at depth 1, in a section named `uidgid`
abbrev pub is_read : List Line → Bool
is_read before = (depth before == 1) && bytes_eq (section before) (codes "uidgid")

-- the number by which the line after those is told, from 1
abbrev pub number_after : List Line → ℕ
number_after before = next_number (length before)
