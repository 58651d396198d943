use Rattle.std.proofs.Common.{◌≡◌, ◌++◌, length}
use Rattle.std.specs.Vec.Iter.{into_iter_items}
use Rattle.cpg_step.specs.Running.{AreDone}
use Rattle.cpg_step.proofs.running.run_commands.Given as goal

abbrev pub invariant-loop-command : goal.invariant-loop-command
invariant-loop-command g l = record {
  counted : l.index ≡ length l.yielded;
  same : g.P.PutsSteps.form l.puts ≡ g.P.PutsSteps.form l.initial.puts;
  done : AreDone (g.P.PutsSteps.form l.initial.puts) 0 l.initial.world l.yielded (g.W.Write.contents l.initial.writer) (g.W.Write.contents l.writer) l.world;
  nodes : length l.world.nodes ≡ length l.initial.world.nodes;
  split : into_iter_items l.initial.command-iterator ≡ l.yielded ++ into_iter_items l.command-iterator;
}
