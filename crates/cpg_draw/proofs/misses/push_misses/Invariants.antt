use Rattle.std.proofs.Common.{◌≡◌, ◌++◌, reverse}
use Rattle.cpg_draw.specs.Misses.{misses_to}
use Rattle.cpg_draw.specs.Sets.{has}
use Rattle.cpg_draw.proofs.misses.push_misses.Given as goal

abbrev pub invariant-loop-before : goal.invariant-loop-before
invariant-loop-before l =
    l.initial.misses.items ++ reverse (misses_to l.nodes l.arrow (has l.passed) l.nodes)
    ≡ l.misses.items ++ reverse (misses_to l.nodes l.arrow (has l.passed) l.before)
