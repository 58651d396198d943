use Rattle.std.proofs.Common.{◌-◌}
use Rattle.cpg_serve.specs.Settling.{HasDelivered}
use Rattle.cpg_serve.proofs.turning.deliver_all.Given as goal

abbrev pub invariant-loop : goal.invariant-loop
invariant-loop l = record {
  did : HasDelivered l.fn.node l.node;
}

abbrev pub decreases-loop : goal.decreases-loop
decreases-loop l = 4294967296 - l.node.ring.state.delivered
