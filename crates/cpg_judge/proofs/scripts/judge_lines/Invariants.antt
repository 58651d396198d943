use Rattle.std.proofs.Common.{◌≡◌, ◌+◌, ◌≤◌, length, option_map}
use Rattle.cpg_text.specs.Lines.{lines_left}
use Rattle.cpg_text.specs.Items.{items_with}
use Rattle.cpg_judge.specs.Scripts.{entry_in, entries_of_script}
use Rattle.cpg_judge.proofs.scripts.judge_lines.Given as goal

abbrev pub invariant-loop-line : goal.invariant-loop-line
invariant-loop-line l = record {
  read : entries_of_script l.script ≡ items_with entry_in l.policy (l.number + 1) (lines_left (option_map (λ rest. rest.now) l.line-iterator.rest));
  counted : l.number + length (lines_left (option_map (λ rest. rest.now) l.line-iterator.rest)) ≤ length l.script + 1;
}
