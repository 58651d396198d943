use Rattle.std.proofs.Common.{◌≡◌, ◌+◌, vec_len, vec_capacity}
use Rattle.cpg_daemon.proofs.stopping.append.Given as goal

abbrev pub invariant-loop : goal.invariant-loop
invariant-loop g l =
    (vec_len l.list + vec_len l.more ≡ vec_len l.fn.list + vec_len l.fn.more) × (vec_len l.more + l.counter ≡ vec_len l.fn.more) × (vec_capacity l.list ≡ vec_capacity l.fn.list)
