use Rattle.std.proofs.Common.{◌≡◌, option_map}
use Rattle.cpg_text.specs.Lines.{lines_of, lines_left}
use Rattle.cpg_conf.specs.Names.{next_number}
use Rattle.cpg_accept.specs.Accepting.{first_command}
use Rattle.cpg_accept.proofs.accepting.refuse_commands.Given as goal

abbrev pub invariant-loop-line : goal.invariant-loop-line
invariant-loop-line l = record {
  next : (goal.iterator-loop-line).can_next l.line-iterator;
  finite : (goal.iterator-loop-line).is_finite l.line-iterator;
  same : first_command 1 (lines_of l.text) ≡ first_command (next_number l.number) (lines_left (option_map (λ rest. rest.now) l.line-iterator.rest));
}
