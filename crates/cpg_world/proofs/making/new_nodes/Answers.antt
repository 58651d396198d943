use Rattle.cpg_world.proofs.Beginning.{nodes_more}
use Rattle.cpg_world.proofs.making.new_nodes.Goals as goal

pub loop-before-preserved : goal.loop-before-preserved
loop-before-preserved c = nodes_more c.args.settings c.args.list.now c.loop-before.before c.loop-before.nodes.items c.push.new.self.items c.in_ok-new_node.field-0 c.loop-before.invariant c.in_ok-new_node.ensures.ok c.in_ok-push.ensures.items
