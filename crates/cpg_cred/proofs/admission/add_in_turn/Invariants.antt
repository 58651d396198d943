use Rattle.std.proofs.Common.{◌≡◌, take}
use Rattle.cpg_cred.specs.Listed.{with_numbers}
use Rattle.cpg_cred.proofs.admission.add_in_turn.Given as goal

abbrev pub invariant-loop-number : goal.invariant-loop-number
invariant-loop-number l = l.numbers.keys ≡ with_numbers l.initial.numbers.keys (take l.number-index l.more)
