use Rattle.std.proofs.Common.{arith}
use Rattle.std.proofs.lemmas.Bool.Decides.{nat_tests}
use Rattle.cpg_text.proofs.runs.skip_by_256.Goals as goal

pub loop-place-preserved : goal.loop-place-preserved
loop-place-preserved c =
    let run = c.highest_of_256.ensures (grind (arith, nat_tests, c.if-not-are_low, c.are_low.ensures)) in
    record { so_far = omega (arith, run, c.loop-place.invariant.so_far); forth = omega arith; within = omega arith }
