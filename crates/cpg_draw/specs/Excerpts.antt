-- which rows of a picture are shown, and on which lines they stand
use Rattle.std.specs.Prelude.{ℕ, ◌+◌, Bool, not, ◌&&◌, ◌||◌, nat_le, max, List, [], ◌∷◌, if◌then◌else◌}
use Rattle.std.specs.List.{flat_map}
use Rattle.cpg_draw.specs.declared.arrows.Arrow.{Arrow}
use Rattle.cpg_draw.specs.declared.excerpts.Excerpt.{Excerpt}
use Rattle.cpg_draw.specs.declared.excerpts.Spot.{Spot}
use Rattle.cpg_draw.specs.declared.misses.Miss.{Miss}
use Rattle.cpg_draw.specs.Misses.{misses_in}

-- A row is not above the first that is shown; what was before the script stands with row 1.
abbrev pub is_below : Excerpt → ℕ → Bool
is_below x row = nat_le x.first (max row 1)

-- A row is shown: it is not above the first, and where only frames are asked for it moves some. None is after the last, since the
-- picture is that of the script up to it.
abbrev pub is_shown : Excerpt → ℕ → Bool → Bool
is_shown x row moves = is_below x row && (not x.frames || moves)

-- the spot before the script
abbrev pub start : Spot
start = record { row = 0; place = 0 }

-- the row of the first command, and the first line
abbrev pub first_spot : Spot
first_spot = record { row = 1; place = 1 }

-- Where a row is drawn, where that is the next free line; what happens above the first row is drawn above all lines.
abbrev pub spot_of : Excerpt → Spot → Spot
spot_of x next = record { row = next.row; place = if is_below x next.row then next.place else 0 }

-- the next row, and its line, after one that is shown or is not
abbrev pub after_row : Bool → Spot → Spot
after_row here next = record { row = next.row + 1; place = if here then next.place + 1 else next.place }

-- a row, where it is shown
abbrev pub if_shown : {A : Type 0} → Bool → A → List A
if_shown here row = if here then row ∷ [] else []

-- a frame that did not come, where the row that sent it is shown
abbrev pub miss_kept : Excerpt → Miss → List Miss
miss_kept x m = if_shown (is_below x m.arrow.sent.row) m

-- and all of them
abbrev pub misses_kept : Excerpt → List Miss → List Miss
misses_kept x misses = flat_map (miss_kept x) misses

-- the frames that shown rows sent and that did not come
abbrev pub shown_misses : Excerpt → ℕ → List Arrow → List Miss
shown_misses x nodes arrows = misses_kept x (misses_in nodes arrows)
