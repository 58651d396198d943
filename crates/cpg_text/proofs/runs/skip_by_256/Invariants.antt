use Rattle.std.proofs.Common.{◌≡◌, ◌+◌, ◌-◌, ◌≤◌, length, drop}
use Rattle.std.specs.List.{prefix_len}
use Rattle.cpg_text.specs.Percent.{is_plain}
use Rattle.cpg_text.proofs.runs.skip_by_256.Given as goal

abbrev pub invariant-loop-place : goal.invariant-loop-place
invariant-loop-place l = record {
  so_far : l.place + prefix_len is_plain (drop l.place l.text) ≡ l.from + prefix_len is_plain (drop l.from l.text);
  forth : l.from ≤ l.place;
  within : l.place ≤ length l.text;
}

abbrev pub decreases-loop-place : goal.decreases-loop-place
decreases-loop-place l = length l.text - l.place
