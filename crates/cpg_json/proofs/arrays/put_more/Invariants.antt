use Rattle.std.proofs.Common.{◌≡◌, ◌++◌, map, take}
use Rattle.cpg_json.specs.Objects.{more}
use Rattle.cpg_json.proofs.arrays.put_more.Given as goal

abbrev pub invariant-loop-item : goal.invariant-loop-item
invariant-loop-item g l = l.line.items ≡ l.initial.line.items ++ more (map g.T.Item.printed (take l.item-index l.items))
