use Rattle.cpg_why.proofs.Chosen.{longest_next}
use Rattle.cpg_why.proofs.steps.choosing.choose_next.Goals as goal

pub returns-in-Some-clause-longest : goal.returns-in-Some-clause-longest
returns-in-Some-clause-longest c =
    longest_next c.args.world.now.nodes c.args.before c.in-Some.node.now c.args.most.now c.choose_audit.result.now c.in-Some.ensures c.requires.longest c.choose_audit.ensures.longer
