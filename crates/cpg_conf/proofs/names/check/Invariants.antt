use Rattle.std.proofs.Common.{◌≡◌, option_map}
use Rattle.std.specs.Result.{result_err}
use Rattle.cpg_text.specs.Lines.{lines_of, lines_left}
use Rattle.cpg_conf.specs.Names.{namings_from, next_number}
use Rattle.cpg_conf.proofs.names.check.Given as goal

abbrev pub invariant-loop-line : goal.invariant-loop-line
invariant-loop-line l =
    result_err (namings_from 1 (lines_of l.text)) ≡ result_err (namings_from (next_number l.number) (lines_left (option_map (λ rest. rest.now) l.line-iterator.rest)))
