use Rattle.std.proofs.Common.{◌≡◌, length}
use Rattle.cpg_daemon.specs.Submitting.{SubmitsUpTo}
use Rattle.cpg_daemon.proofs.running.Running.submit_each.Given as goal

abbrev pub invariant-loop-call : goal.invariant-loop-call
invariant-loop-call g l = record {
  first : SubmitsUpTo g.B.HistoryName.start l.fn.session l.fn.calls.items l.calls.items l.session;
  who : l.session.who ≡ l.fn.session.who;
  seat : l.session.seat ≡ l.fn.session.seat;
}

abbrev pub decreases-loop-call : goal.decreases-loop-call
decreases-loop-call g l = length l.calls.items
