use Rattle.cpg_cluster.specs.Steps.{AreWithin}
use Rattle.cpg_bench.proofs.rounds.answer_all.Given as goal

abbrev pub invariant-loop : goal.invariant-loop
invariant-loop g l = AreWithin l.running.nodes l.sessions.slots
