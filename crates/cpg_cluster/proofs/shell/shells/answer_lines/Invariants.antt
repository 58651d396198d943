use Rattle.cpg_cluster.specs.Steps.{AreWithin}
use Rattle.cpg_cluster.specs.ShellSteps.{AreShelledSo}
use Rattle.cpg_cluster.proofs.shell.shells.answer_lines.Given as goal

abbrev pub invariant-loop-number : goal.invariant-loop-number
invariant-loop-number g l = record {
  so : AreShelledSo (g.P.PutsAnswer.printed l.options.form) g.B.HistoryName.start l.running.nodes l.number l.sessions (g.R.Read.remaining l.initial.reader) (g.R.Read.remaining l.reader) (g.W.Write.contents l.initial.writer) (g.W.Write.contents l.writer) (g.E.Write.contents l.initial.errors) (g.E.Write.contents l.errors);
  within : AreWithin l.running.nodes l.sessions.slots;
}
