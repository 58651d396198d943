use Rattle.std.proofs.Common.{◌≡◌, ◌^◌, ◌+◌, [], vec_len}
use Rattle.cpg_daemon.proofs.making.new_locks.Given as goal

abbrev pub invariant-loop-before : goal.invariant-loop-before
invariant-loop-before g l =
    (vec_len l.locks ≡ l.before) × (l.pens.from ≡ l.before + 1) × (l.pens.to ≡ 2 ^ 64) × (l.pens.seen ≡ [])
