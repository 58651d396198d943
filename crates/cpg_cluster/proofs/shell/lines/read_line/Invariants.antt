use Rattle.cpg_cluster.specs.ShellSteps.{IsReading}
use Rattle.cpg_cluster.proofs.shell.lines.read_line.Given as goal

abbrev pub invariant-loop-turn : goal.invariant-loop-turn
invariant-loop-turn g l = IsReading l.line.items (g.R.Read.remaining l.initial.reader) (g.R.Read.remaining l.reader)
