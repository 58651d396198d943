use Rattle.std.proofs.Common.{rules, arith, ◌∙◌, ◌<◌}
use Rattle.cpg_daemon.proofs.Counting.{one_fewer}
use Rattle.cpg_daemon.proofs.beginning.begin_all.Goals as goal

pub loop-before-preserved : goal.loop-before-preserved
loop-before-preserved g c =
    let short : c.loop-before.before < c.args.nodes = omega (arith, c.loop-before-test.true, c.loop-before.auto.before-end) in (
      search rules,
      search rules,
      search rules,
      one_fewer c.loop-before.before c.args.nodes c.args.peers _ short (c.in_ok-ends.ensures.rest.0 ∙ c.loop-before.invariant.3),
      one_fewer c.loop-before.before c.args.nodes c.args.peers _ short (c.in_ok-ends.ensures.rest.1 ∙ c.loop-before.invariant.4),
    )
