use Rattle.std.proofs.Common.{Bool, Option, subst}
use Rattle.cpg_cluster.specs.ShellSteps.{TakesIn}
use Rattle.cpg_cluster.proofs.ReadLines.{taken_whole}
use Rattle.cpg_cluster.proofs.shell.lines.read_line.Goals as goal

pub returns-in-Ok-Some-clause-line : goal.returns-in-Ok-Some-clause-line
returns-in-Ok-Some-clause-line g c =
    let takes = subst (λ (ended : Option Bool). TakesIn c.in_ok-came.came c.loop-turn.line.items ended c.take_in.new.line.items) c.in-Ok-Some.field-0-is c.in-Ok-Some.ensures.taken in
    taken_whole c.in_ok-came.came c.loop-turn.line.items c.take_in.new.line.items c.in-Ok-Some.more (g.R.Read.remaining c.args.reader.now) (g.R.Read.remaining c.loop-turn.reader) (g.R.Read.remaining c.read_once.new.reader) takes c.loop-turn.invariant c.in_ok-came.ensures.came
