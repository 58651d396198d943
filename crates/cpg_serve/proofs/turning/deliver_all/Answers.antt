use Rattle.std.proofs.Common.{sym, subst}
use Rattle.cpg_serve.specs.Settling.{HasDelivered}
use Rattle.cpg_serve.proofs.Turns.{delivered_more}
use Rattle.cpg_serve.proofs.turning.deliver_all.Goals as goal

pub loop-preserved : goal.loop-preserved
loop-preserved c = record {
  did = subst (HasDelivered c.args.node.now) (sym c.in_ok-deliver.ensures.ok.1) (delivered_more c.args.node.now c.loop.node c.loop.invariant.did);
}
