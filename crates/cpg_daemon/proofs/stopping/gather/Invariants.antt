use Rattle.std.proofs.Common.{◌≡◌, ◌+◌, ◌*◌, All, vec_len, vec_capacity}
use Rattle.cpg_daemon.proofs.stopping.gather.Given as goal

abbrev pub invariant-loop : goal.invariant-loop
invariant-loop g l =
    All (λ thread. thread.promise.0 ≡ l.peers) l.threads.items × (vec_len l.threads + l.counter ≡ vec_len l.fn.begun.threads) × (vec_len l.ends.outgoing ≡ l.counter * l.peers) × (vec_len l.ends.incoming ≡ l.counter * l.peers)
    × (vec_capacity l.ends.outgoing ≡ vec_capacity l.fn.ends.outgoing) × (vec_capacity l.ends.incoming ≡ vec_capacity l.fn.ends.incoming)
