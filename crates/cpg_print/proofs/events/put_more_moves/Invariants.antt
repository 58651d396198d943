use Rattle.std.proofs.Common.{◌≡◌, ◌++◌, take, codes}
use Rattle.std.specs.List.{flat_map}
use Rattle.cpg_print.specs.Events.{move_text}
use Rattle.cpg_print.proofs.events.put_more_moves.Given as goal

abbrev pub invariant-loop-one : goal.invariant-loop-one
invariant-loop-one l = l.line.items ≡ l.initial.line.items ++ flat_map (λ one. codes "," ++ move_text one) (take l.one-index l.moves)
