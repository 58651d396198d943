-- member lists that copies share
use Rattle.std.specs.Prelude.{List, [], Option, Some, None}
use Rattle.std.specs.Arc.{arc_value}
use Rattle.std.specs.declared.sync.Arc.{Arc}
use Rattle.smallvec.specs.SmallVec.{SmallVec}
use Rattle.cpg_record.specs.declared.memberships.Member.{Member}

-- the members of the list that is there, and nobody where there is none
abbrev pub shared : {Z : Type 0} → Option (Arc (SmallVec Member) Z) → List Member
shared None = []
shared (Some list) = (arc_value list).items
