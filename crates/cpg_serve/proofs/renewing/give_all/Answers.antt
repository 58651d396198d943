use Rattle.std.proofs.Common.{arith, ◌+◌}
use Rattle.cpg_serve.proofs.Drained.{given_more}
use Rattle.cpg_serve.proofs.renewing.give_all.Goals as goal

pub loop-conn-preserved : goal.loop-conn-preserved
loop-conn-preserved c = record {
  given = given_more c.loop-conn.conn (c.loop-conn.conn + 1) c.args.node.now c.loop-conn.node c.give.new.node (omega arith) c.loop-conn.invariant.given c.in_ok-give.ensures.ok;
  within = omega (arith, c.loop-conn-test.true);
}
