use Rattle.std.proofs.Common.{◌≤◌, ◌-◌, take}
use Rattle.cpg_serve.specs.Carrying.{HaveConnected}
use Rattle.cpg_serve.proofs.renewing.connect_all.Given as goal

abbrev pub invariant-loop-conn : goal.invariant-loop-conn
invariant-loop-conn l = record {
  connected : HaveConnected (take l.conn l.old.clients) l.numbers.items l.fn.node l.node;
  within : l.conn ≤ l.last;
}

abbrev pub decreases-loop-conn : goal.decreases-loop-conn
decreases-loop-conn l = l.last - l.conn
