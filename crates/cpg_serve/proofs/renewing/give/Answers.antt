use Rattle.cpg_serve.proofs.Coming.{taken_then}
use Rattle.cpg_serve.proofs.renewing.give.Goals as goal

pub loop-preserved : goal.loop-preserved
loop-preserved c = record {
  taken = taken_then c.args.conn c.args.node.now c.loop.node c.take_one.new.node c.loop.invariant.taken c.in_ok-take_one.ensures.ok.0;
}
