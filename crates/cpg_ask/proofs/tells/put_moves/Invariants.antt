use Rattle.std.proofs.Common.{◌≡◌, ◌++◌, take}
use Rattle.std.specs.List.{flat_map}
use Rattle.cpg_ask.specs.Tells.{move_bytes}
use Rattle.cpg_ask.proofs.tells.put_moves.Given as goal

abbrev pub invariant-loop-each : goal.invariant-loop-each
invariant-loop-each l = l.out.items ≡ l.fn.out.items ++ flat_map move_bytes (take l.each-index l.moves)
