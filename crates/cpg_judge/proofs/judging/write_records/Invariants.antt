use Rattle.std.proofs.Common.{◌≡◌}
use Rattle.std.specs.Prelude.{Ok}
use Rattle.cpg_record.specs.Judging.{judged}
use Rattle.cpg_judge.specs.Gathering.{Gathers}
use Rattle.cpg_judge.specs.Judging.{told_upto}
use Rattle.cpg_judge.proofs.judging.write_records.Given as goal

abbrev pub invariant-loop-index : goal.invariant-loop-index
invariant-loop-index g l = record {
  gathered : Gathers (Ok tt) (g.W.Write.contents l.initial.writer) l.initial.lines.items (g.W.Write.contents l.writer) l.lines.items (told_upto (g.P.PutsJudged.form l.initial.puts) (judged l.policy) l.index);
  same : g.P.PutsJudged.form l.puts ≡ g.P.PutsJudged.form l.initial.puts;
  taken : g.P.PutsJudged.stands l.puts l.policy l.index;
}
