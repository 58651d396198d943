use Rattle.cpg_cluster.specs.Commands.{IsWithin}
use Rattle.cpg_cluster.specs.Steps.{AreWithin}
use Rattle.cpg_play.proofs.clusters.drain.Given as goal

abbrev pub invariant-loop : goal.invariant-loop
invariant-loop g l = IsWithin l.running.nodes l.command × AreWithin l.running.nodes l.sessions.slots
