use Rattle.std.proofs.Common.{take}
use Rattle.cpg_cluster.specs.Steps.{AreWithin}
use Rattle.cpg_cluster.specs.Running.{AreDone}
use Rattle.cpg_cluster.proofs.running.run_commands.Given as goal

abbrev pub invariant-loop-line : goal.invariant-loop-line
invariant-loop-line g l = record {
  done : AreDone (g.P.PutsAnswer.printed l.options.form) g.B.HistoryName.start l.initial.sessions (take l.line-index l.lines) (g.W.Write.contents l.initial.writer) (g.W.Write.contents l.writer) l.sessions;
  within : AreWithin l.running.nodes l.sessions.slots;
}
