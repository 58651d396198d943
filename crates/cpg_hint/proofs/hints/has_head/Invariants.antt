use Rattle.std.proofs.Common.{◌≡◌, option_map}
use Rattle.cpg_text.specs.Lines.{lines_left, lines_of}
use Rattle.cpg_hint.specs.Hints.{has_head}
use Rattle.cpg_hint.proofs.hints.has_head.Given as goal

abbrev pub invariant-loop-line : goal.invariant-loop-line
invariant-loop-line l =
    has_head l.number (lines_of l.script) ≡ has_head l.left (lines_left (option_map (λ rest. rest.now) l.line-iterator.rest))
