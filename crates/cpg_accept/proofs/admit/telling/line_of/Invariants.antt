use Rattle.std.proofs.Common.{◌≡◌, ◌-◌, option_map}
use Rattle.std.specs.List.{slice_get}
use Rattle.cpg_text.specs.Lines.{lines_of, lines_left}
use Rattle.cpg_accept.proofs.admit.telling.line_of.Given as goal

abbrev pub invariant-loop-line : goal.invariant-loop-line
invariant-loop-line l = slice_get (lines_of l.text) (l.number - 1) ≡ slice_get (lines_left (option_map (λ rest. rest.now) l.line-iterator.rest)) l.before
