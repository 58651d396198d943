use Rattle.std.proofs.Common.{◌≡◌, ◌+◌, ◌≤◌, length, option_map}
use Rattle.cpg_text.specs.Percent.{decoded}
use Rattle.cpg_text.specs.Steps.{counted_after}
use Rattle.cpg_text.proofs.percent.decoded_length.Given as goal

abbrev pub invariant-loop-rest : goal.invariant-loop-rest
invariant-loop-rest l = record {
  so_far : counted_after l.count (decoded l.rest) ≡ option_map (λ bytes. length bytes) (decoded l.text);
  few : l.count + length l.rest ≤ length l.text;
}

abbrev pub decreases-loop-rest : goal.decreases-loop-rest
decreases-loop-rest l = length l.rest
