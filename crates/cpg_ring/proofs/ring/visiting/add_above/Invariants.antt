use Rattle.std.proofs.Common.{◌≡◌, ◌++◌, take, nat_lt}
use Rattle.std.specs.List.{filter}
use Rattle.cpg_ring.proofs.ring.visiting.add_above.Given as goal

abbrev pub invariant-loop-place : goal.invariant-loop-place
invariant-loop-place l = l.requests.items ≡ l.initial.requests.items ++ filter (nat_lt l.end) (take l.place-index l.asked)
