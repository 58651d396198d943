use Rattle.std.proofs.Common.{◌≡◌, take, map}
use Rattle.cpg_group.proofs.standing.Groups.names.Given as goal

abbrev pub invariant-loop-name : goal.invariant-loop-name
invariant-loop-name l = l.names.items ≡ map (λ key. key.items) (take l.name-index l.name-items)
