use Rattle.std.proofs.Common.{◌≡◌, length, take}
use Rattle.std.specs.Prelude.{Ok}
use Rattle.std.specs.List.{flat_map}
use Rattle.cpg_record.specs.Judging.{judged}
use Rattle.cpg_judge.specs.Gathering.{Gathers}
use Rattle.cpg_judge.specs.Judging.{inbox_by}
use Rattle.cpg_judge.proofs.judging.write_inboxes.Given as goal

abbrev pub invariant-loop-conn : goal.invariant-loop-conn
invariant-loop-conn g l = record {
  gathered : Gathers (Ok tt) (g.W.Write.contents l.initial.writer) l.initial.lines.items (g.W.Write.contents l.writer) l.lines.items
      (flat_map (inbox_by (g.P.PutsJudged.form l.initial.puts) (judged l.policy)) (take l.conn-index l.conns));
  same : g.P.PutsJudged.form l.puts ≡ g.P.PutsJudged.form l.initial.puts;
  taken : g.P.PutsJudged.stands l.puts l.policy (length (judged l.policy));
}
