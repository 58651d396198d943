use Rattle.std.proofs.Common.{◌≡◌, ◌+◌, ◌≤◌, length, option_map}
use Rattle.std.specs.List.{concat}
use Rattle.std.specs.Result.{result_err}
use Rattle.cpg_text.specs.Lines.{lines_left}
use Rattle.cpg_conf.specs.Listed.{listed}
use Rattle.cpg_conf.specs.Names.{next_number}
use Rattle.cpg_conf.specs.Steps.{said_from, shapes}
use Rattle.cpg_conf.proofs.conf.check.Given as goal

abbrev pub invariant-loop-line : goal.invariant-loop-line
invariant-loop-line l = record {
  said : result_err (listed l.names l.text) ≡ result_err (said_from l.names l.place (next_number l.number) (shapes (lines_left (option_map (λ rest. rest.now) l.line-iterator.rest))));
  shallow : l.place.depth + length (concat (lines_left (option_map (λ rest. rest.now) l.line-iterator.rest))) ≤ length l.text;
}
