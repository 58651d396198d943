-- where a message keeps its bytes
use Rattle.std.specs.Prelude.{ℕ, ◌<◌, List, length}
use Rattle.std.specs.Arc.{arc_value}
use Rattle.cpg_entry.specs.declared.bodies.Body.{Body}
use Rattle.cpg_entry.specs.declared.bodies.Body.TheVariants as kept
use Rattle.cpg_entry.specs.declared.bodies.TheConstants.{KEPT_INSIDE}

-- the bytes, wherever they are
abbrev pub bytes_of : Body → List ℕ
bytes_of (kept.Few few) = few
bytes_of (kept.List list) = (arc_value list).items
bytes_of (kept.Part bytes) = arc_value bytes

-- only what is not kept inside is shared
abbrev pub IsKept : Body → Type 0
IsKept (kept.Few few) = Unit {0}
IsKept (kept.List list) = KEPT_INSIDE < length (arc_value list).items
IsKept (kept.Part bytes) = KEPT_INSIDE < length (arc_value bytes)
