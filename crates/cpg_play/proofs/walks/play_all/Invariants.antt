use Rattle.std.proofs.Common.{option_map}
use Rattle.cpg_text.specs.Lines.{lines_of, lines_left}
use Rattle.cpg_conf.specs.Names.{next_number}
use Rattle.cpg_play.specs.Walking.{ArePlayed, Course, begun}
use Rattle.cpg_play.proofs.walks.play_all.Given as goal

abbrev pub invariant-loop-line : goal.invariant-loop-line
invariant-loop-line g l = record {
  next : (goal.iterator-loop-line g).can_next l.line-iterator;
  finite : (goal.iterator-loop-line g).is_finite l.line-iterator;
  played : (last : Course _) →
      ArePlayed g.P.Plays.does (next_number l.number) (lines_left (option_map (λ rest. rest.now) l.line-iterator.rest))
      (record { player = l.player; printed = l.printed; written = g.W.Write.contents l.writer; wanted = l.wanted }) last →
      ArePlayed g.P.Plays.does 1 (lines_of l.script) (begun l.initial.player (g.W.Write.contents l.initial.writer)) last;
}
