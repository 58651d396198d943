use Rattle.std.proofs.Common.{◌≡◌}
use Rattle.cpg_play.proofs.walks.read_lines.Given as goal

abbrev pub invariant-loop-line : goal.invariant-loop-line
invariant-loop-line g l = record {
  next : (goal.iterator-loop-line g).can_next l.line-iterator;
  finite : (goal.iterator-loop-line g).is_finite l.line-iterator;
  same : l.player ≡ l.initial.player;
}
