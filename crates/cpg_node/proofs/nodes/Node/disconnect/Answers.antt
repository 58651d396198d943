use Rattle.std.proofs.Common.{None, length, sym, ap, ◌∙◌}
use Rattle.cpg_ring.proofs.Lists.{length-with_item}
use Rattle.cpg_node.specs.Nodes.{NodeValue, open_client}
use Rattle.cpg_node.proofs.Keeping.{entered, node_kept, open_within}
use Rattle.cpg_node.proofs.nodes.Node.disconnect.Goals as goal

pub invariant_of-self : goal.invariant_of-self
invariant_of-self c =
    let is_open = ap (λ (x : NodeValue). open_client x c.args.conn) c.self.view_is ∙ (sym c.client.ensures ∙ c.in-Some.is) in
    let within = open_within c.self.inside.clients.items c.args.conn c.in-Some.client is_open in
    let ruled = c.entry-entry.ensures.ruled within.0 tt in
    node_kept c.self.inside.id c.self.inside.ring c.enqueue_end.new.self c.self.inside.clients.items c.put_client.new.clients.items c.self.inside.judged c.self.invariant
    (entered c.self.inside.ring c.enqueue_end.new.self c.entry-entry.result None c.enqueue_end.result c.self.invariant.sound ruled c.enqueue_end.ensures.answer c.enqueue_end.ensures.err)
    (ap length c.put_client.ensures ∙ length-with_item c.self.inside.clients.items c.args.conn _)
