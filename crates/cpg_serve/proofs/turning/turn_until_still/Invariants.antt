use Rattle.std.proofs.Common.{◌≡◌, None, length}
use Rattle.cpg_node.specs.Calls.{place_to_deliver}
use Rattle.cpg_serve.specs.Settling.{HasTurned, IsBrisk}
use Rattle.cpg_serve.proofs.turning.turn_until_still.Given as goal

abbrev pub invariant-loop-node : goal.invariant-loop-node
invariant-loop-node l = record {
  did : HasTurned l.fn.node l.node;
  brisk : IsBrisk l.fn.node.ring l.node.ring;
  still : place_to_deliver l.node ≡ None;
}

abbrev pub decreases-loop-node : goal.decreases-loop-node
decreases-loop-node l = length l.node.ring.state.waiting
