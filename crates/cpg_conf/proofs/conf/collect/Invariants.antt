use Rattle.std.proofs.Common.{◌≡◌, ◌+◌, ◌≤◌, length, option_map, Ok}
use Rattle.std.specs.List.{concat}
use Rattle.cpg_text.specs.Lines.{lines_left}
use Rattle.cpg_conf.specs.Listed.{and_then, listed, numbers_listed}
use Rattle.cpg_conf.specs.Names.{next_number}
use Rattle.cpg_conf.specs.Steps.{said_from, shapes}
use Rattle.cpg_conf.proofs.conf.collect.Given as goal

abbrev pub invariant-loop-line : goal.invariant-loop-line
invariant-loop-line l = record {
  said : listed l.names l.text ≡ and_then (Ok (numbers_listed l.numbers)) (said_from l.names l.nesting (next_number l.number) (shapes (lines_left (option_map (λ rest. rest.now) l.line-iterator.rest))));
  shallow : l.nesting.depth + length (concat (lines_left (option_map (λ rest. rest.now) l.line-iterator.rest))) ≤ length l.text;
}
