use Rattle.std.proofs.Common.{◌≡◌, ◌++◌}
use Rattle.std.specs.List.{flat_map, range_with_len}
use Rattle.cpg_record.specs.Judging.{judged}
use Rattle.cpg_why.specs.Ways.{way_at}
use Rattle.cpg_why.proofs.way.find_way.Given as goal

abbrev pub invariant-loop-index : goal.invariant-loop-index
invariant-loop-index l = l.list.items ≡ l.initial.list.items ++ flat_map (way_at (judged l.policy) l.conn) (range_with_len 1 l.index)
