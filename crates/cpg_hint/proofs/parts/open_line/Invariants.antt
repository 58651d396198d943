use Rattle.std.proofs.Common.{◌≡◌, None, option_map}
use Rattle.cpg_conf.specs.Names.{next_number}
use Rattle.cpg_text.specs.Lines.{lines_left}
use Rattle.cpg_hint.specs.Parts.{open_line}
use Rattle.cpg_hint.proofs.parts.open_line.Given as goal

abbrev pub invariant-loop-line : goal.invariant-loop-line
invariant-loop-line l =
    open_line 0 None 1 (lines_left (option_map (λ rest. rest.now) l.fn.lines.rest))
    ≡ open_line l.depth l.last (next_number l.number) (lines_left (option_map (λ rest. rest.now) l.line-iterator.rest))
