use Rattle.std.proofs.Common.{◌≡◌}
use Rattle.cpg_record.specs.Places.{Begins}
use Rattle.cpg_daemon.specs.Taking.{TakesOnto}
use Rattle.cpg_daemon.proofs.running.Running.take_many.Given as goal

abbrev pub invariant-loop-taken : goal.invariant-loop-taken
invariant-loop-taken g l = record {
  onto : TakesOnto g.B.HistoryName.start l.fn.session l.fn.events.items l.taken l.events.items l.session;
  same : l.session.who.id ≡ l.fn.session.who.id;
  seat : Begins l.fn.session.seat l.session.seat;
}
