use Rattle.std.proofs.Common.{option_map}
use Rattle.cpg_text.specs.Lines.{lines_left}
use Rattle.cpg_accept.proofs.Cutting.{Passed}
use Rattle.cpg_accept.proofs.parts.Cut.of.Given as goal

abbrev pub invariant-loop-line : goal.invariant-loop-line
invariant-loop-line l = record {
  next : (goal.iterator-loop-line).can_next l.lines;
  finite : (goal.iterator-loop-line).is_finite l.lines;
  passed : Passed l.text l.lines_before (lines_left (option_map (λ rest. rest.now) l.lines.rest)) l.number l.end;
}
