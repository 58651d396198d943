use Rattle.std.proofs.Common.{◌<◌, length, arith}
use Rattle.cpg_draw.proofs.Sent.{sent_step}
use Rattle.cpg_draw.proofs.frames.push_arrows.Goals as goal

pub loop-index-preserved : goal.loop-index-preserved
loop-index-preserved c =
    let within : c.loop-index.index < length c.args.world.now.sent = omega arith in
    sent_step c.args.from.0 c.args.from.1 c.args.from.2 c.loop-index.index c.args.world.now.sent _ _ _ within c.loop-index.invariant c.in_ok-push_arrow.ensures.ok
