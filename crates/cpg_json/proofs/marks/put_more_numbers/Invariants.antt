use Rattle.std.proofs.Common.{◌≡◌, ◌++◌, map, decimal}
use Rattle.cpg_json.specs.Marks.{frames_between}
use Rattle.cpg_json.specs.Objects.{more}
use Rattle.cpg_json.proofs.marks.put_more_numbers.Given as goal

abbrev pub invariant-loop-index : goal.invariant-loop-index
invariant-loop-index l = l.head.items ≡ l.initial.head.items ++ more (map decimal (frames_between l.before l.index))
