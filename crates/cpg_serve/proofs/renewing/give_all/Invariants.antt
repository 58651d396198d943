use Rattle.std.proofs.Common.{◌≤◌, ◌-◌}
use Rattle.cpg_serve.specs.Carrying.{HaveGiven}
use Rattle.cpg_serve.proofs.renewing.give_all.Given as goal

abbrev pub invariant-loop-conn : goal.invariant-loop-conn
invariant-loop-conn l = record {
  given : HaveGiven l.conn l.fn.node l.node;
  within : l.conn ≤ l.last;
}

abbrev pub decreases-loop-conn : goal.decreases-loop-conn
decreases-loop-conn l = l.last - l.conn
