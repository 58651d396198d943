-- Where a ledger keeps its first items. No public clause cites this module.
use Rattle.std.specs.Prelude.{◌≡◌, List, [], ◌∷◌, ◌++◌, length}
use Rattle.std.specs.Arc.{arc_value}
use Rattle.std.specs.declared.sync.Arc.{Arc}
use Rattle.std.specs.declared.vec.Vec.{Vec}
use Rattle.cpg_entry.specs.declared.blocks.TheConstants.{BLOCK}

module _ {T Y Z : Type 0} where
  -- the items of the blocks, one block after the other
  unfoldable pub laid : List (Arc (Vec T Y) Z) → List T
  laid [] = []
  laid (block ∷ rest) = (arc_value block).items ++ laid rest

  -- a block has 256 items
  abbrev pub IsBlock : Arc (Vec T Y) Z → Type 0
  IsBlock block = length (arc_value block).items ≡ BLOCK
