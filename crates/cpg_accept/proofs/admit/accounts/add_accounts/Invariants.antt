use Rattle.std.proofs.Common.{◌≡◌, option_map}
use Rattle.cpg_text.specs.Lines.{lines_of, lines_left}
use Rattle.cpg_conf.specs.Names.{next_number, with_namings}
use Rattle.cpg_accept.specs.Accounts.{namings_in}
use Rattle.cpg_accept.proofs.admit.accounts.add_accounts.Given as goal

abbrev pub invariant-loop-line : goal.invariant-loop-line
invariant-loop-line l =
    with_namings l.initial.names (namings_in l.book 1 (lines_of l.text)) ≡ with_namings l.names (namings_in l.book (next_number l.number) (lines_left (option_map (λ rest. rest.now) l.line-iterator.rest)))
