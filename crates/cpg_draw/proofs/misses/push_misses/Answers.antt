use Rattle.cpg_draw.specs.Sets.{has}
use Rattle.cpg_draw.proofs.Overtaken.{node_step}
use Rattle.cpg_draw.proofs.misses.push_misses.Goals as goal

pub loop-before-preserved : goal.loop-before-preserved
loop-before-preserved c =
    node_step c.args.nodes c.args.arrow.now (has c.args.passed) c.loop-before.before _ c.loop-before.misses.items c.push_miss.new.misses.items c.loop-before-test.true
    c.loop-before.invariant c.in_ok-push_miss.ensures.ok
