use Rattle.std.proofs.Common.{◌≡◌, option_map}
use Rattle.cpg_text.specs.Lines.{lines_of, lines_left}
use Rattle.cpg_conf.specs.Names.{namings_from, next_number, with_namings}
use Rattle.cpg_conf.proofs.names.Names.add_all.Given as goal

abbrev pub invariant-loop-line : goal.invariant-loop-line
invariant-loop-line l =
    with_namings l.initial.self (namings_from 1 (lines_of l.text)) ≡ with_namings l.self (namings_from (next_number l.number) (lines_left (option_map (λ rest. rest.now) l.line-iterator.rest)))
