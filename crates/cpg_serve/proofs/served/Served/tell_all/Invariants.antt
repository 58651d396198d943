use Rattle.std.proofs.Common.{◌≤◌, ◌-◌}
use Rattle.cpg_serve.proofs.Settled.{ToldTo}
use Rattle.cpg_serve.proofs.served.Served.tell_all.Given as goal

abbrev pub invariant-loop-conn : goal.invariant-loop-conn
invariant-loop-conn l = record {
  told : ToldTo l.fn.self l.conn l.self;
  within : l.conn ≤ l.last;
}

abbrev pub decreases-loop-conn : goal.decreases-loop-conn
decreases-loop-conn l = l.last - l.conn
