use Rattle.std.proofs.Common.{◌≡◌, take, length}
use Rattle.cpg_step.specs.Running.{after}
use Rattle.cpg_why.proofs.steps.running.run_all.Given as goal

abbrev pub invariant-loop-command : goal.invariant-loop-command
invariant-loop-command l = record {
  done : l.world ≡ after l.initial.world (take l.command-index l.commands);
  nodes : length l.world.nodes ≡ length l.initial.world.nodes;
}
