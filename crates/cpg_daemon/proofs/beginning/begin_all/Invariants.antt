use Rattle.std.proofs.Common.{◌≡◌, ◌≤◌, ◌-◌, ◌*◌, All, vec_len, vec_capacity}
use Rattle.cpg_daemon.proofs.beginning.begin_all.Given as goal

abbrev pub invariant-loop-before : goal.invariant-loop-before
invariant-loop-before g l =
    (vec_len l.threads.threads ≡ l.before) × (l.nodes ≤ vec_capacity l.threads.threads) × All (λ thread. thread.promise.0 ≡ l.peers) l.threads.threads.items
    × (vec_len l.lines.outgoing ≡ (l.nodes - l.before) * l.peers) × (vec_len l.lines.incoming ≡ (l.nodes - l.before) * l.peers)
