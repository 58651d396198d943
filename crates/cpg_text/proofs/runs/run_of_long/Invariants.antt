use Rattle.std.proofs.Common.{◌≡◌, ◌+◌, ◌-◌, ◌≤◌, length, drop}
use Rattle.std.specs.List.{prefix_len}
use Rattle.cpg_text.specs.Percent.{is_plain}
use Rattle.cpg_text.proofs.runs.run_of_long.Given as goal

abbrev pub invariant-loop-run : goal.invariant-loop-run
invariant-loop-run l = record {
  so_far : l.run + prefix_len is_plain (drop l.run l.text) ≡ prefix_len is_plain l.text;
  within : l.run ≤ length l.text;
}

abbrev pub decreases-loop-run : goal.decreases-loop-run
decreases-loop-run l = length l.text - l.run
