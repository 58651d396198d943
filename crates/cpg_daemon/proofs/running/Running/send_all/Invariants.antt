use Rattle.std.proofs.Common.{◌≡◌}
use Rattle.cpg_daemon.proofs.running.Running.send_all.Given as goal

abbrev pub invariant-loop-index : goal.invariant-loop-index
invariant-loop-index g l = l.sent ≡ l.fn.sent
