use Rattle.std.proofs.Common.{◌≡◌, ◌-◌, ◌++◌}
use Rattle.cpg_step.specs.Numbers.{numbers_after}
use Rattle.cpg_step.proofs.numbers.frames.put_numbers.Given as goal

abbrev pub invariant-loop-index : goal.invariant-loop-index
invariant-loop-index l = l.text.items ≡ l.initial.text.items ++ numbers_after l.before (l.index - l.before)
