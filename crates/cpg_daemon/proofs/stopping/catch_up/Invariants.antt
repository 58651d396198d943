use Rattle.std.proofs.Common.{◌≡◌}
use Rattle.cpg_daemon.proofs.Meeting.{Caught}
use Rattle.cpg_daemon.proofs.stopping.catch_up.Given as goal

abbrev pub invariant-loop-station : goal.invariant-loop-station
invariant-loop-station g l = Caught l.station-index l.stations l.fn.front.seen × (l.front ≡ l.fn.front)
