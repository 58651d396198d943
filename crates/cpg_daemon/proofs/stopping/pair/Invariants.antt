use Rattle.std.proofs.Common.{◌≡◌, ◌≤◌, ◌+◌, vec_len, vec_capacity}
use Rattle.cpg_daemon.proofs.stopping.pair.Given as goal

abbrev pub invariant-loop : goal.invariant-loop
invariant-loop g l =
    (vec_len l.links ≡ l.counter) × (vec_len l.outgoing + l.counter ≡ vec_len l.fn.ends.outgoing) × (vec_len l.incoming + l.counter ≡ vec_len l.fn.ends.outgoing) × (vec_len l.fn.ends.outgoing ≤ vec_capacity l.links)
