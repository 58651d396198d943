use Rattle.std.proofs.Common.{◌≡◌, length, option_map}
use Rattle.cpg_conf.specs.Names.{next_number}
use Rattle.cpg_text.specs.Lines.{lines_left, lines_of}
use Rattle.cpg_hint.specs.Parts.{begun_at}
use Rattle.cpg_hint.proofs.parts.part_at.Given as goal

abbrev pub invariant-loop-line : goal.invariant-loop-line
invariant-loop-line l =
    begun_at l.part 1 (lines_of l.script) ≡ begun_at l.left (next_number l.number) (lines_left (option_map (λ rest. rest.now) l.lines.rest))

abbrev pub decreases-loop-line : goal.decreases-loop-line
decreases-loop-line l = length (lines_left (option_map (λ rest. rest.now) l.lines.rest))
