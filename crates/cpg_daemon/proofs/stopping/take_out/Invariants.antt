use Rattle.std.proofs.Common.{◌≡◌, ◌≤◌, ◌+◌, vec_len, vec_capacity}
use Rattle.cpg_history.specs.Members.{Began}
use Rattle.cpg_daemon.proofs.stopping.take_out.Given as goal

abbrev pub invariant-loop-node : goal.invariant-loop-node
invariant-loop-node g l =
    (vec_len l.stations ≡ l.node) × (vec_len l.spares + l.node ≡ vec_len l.fn.spares) × (vec_len l.fn.spares ≤ vec_capacity l.stations) × Began l.stations.items l.pens.seen
