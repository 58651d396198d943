use Rattle.std.proofs.Common.{length}
use Rattle.cpg_serve.specs.Carrying.{HasTaken, rest_for}
use Rattle.cpg_serve.proofs.renewing.give.Given as goal

abbrev pub invariant-loop : goal.invariant-loop
invariant-loop l = record {
  taken : HasTaken l.conn l.fn.node l.node;
}

abbrev pub decreases-loop : goal.decreases-loop
decreases-loop l = length (rest_for l.node l.conn)
