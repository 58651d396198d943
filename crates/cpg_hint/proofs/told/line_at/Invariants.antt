use Rattle.std.proofs.Common.{◌≡◌, option_map}
use Rattle.cpg_text.specs.Lines.{lines_left}
use Rattle.cpg_hint.specs.Told.{line_at}
use Rattle.cpg_hint.proofs.told.line_at.Given as goal

abbrev pub invariant-loop-line : goal.invariant-loop-line
invariant-loop-line l =
    line_at l.number (lines_left (option_map (λ rest. rest.now) l.fn.lines.rest)) ≡ line_at l.left (lines_left (option_map (λ rest. rest.now) l.line-iterator.rest))
