use Rattle.std.proofs.Common.{refl, sym, ap, ◌∙◌}
use Rattle.cpg_ring.specs.Rings.{full_refusal}
use Rattle.cpg_node.specs.Nodes.{NodeValue, open_client}
use Rattle.cpg_node.proofs.Keeping.{entered, node_kept, open_within}
use Rattle.cpg_node.proofs.nodes.Node.submit.Goals as goal

pub invariant_of-self : goal.invariant_of-self
invariant_of-self c =
    let is_open = ap (λ (x : NodeValue). open_client x c.args.conn) c.self.view_is ∙ (sym c.client.ensures ∙ c.in-Some.is) in
    let within = open_within c.self.inside.clients.items c.args.conn c.in-Some.client is_open in
    let ruled = c.entry-entry.ensures.ruled within.0 (c.call_refusal.ensures.ruled c.in_default-call_refusal.is) in
    node_kept c.self.inside.id c.self.inside.ring c.enqueue.new.self c.self.inside.clients.items c.self.inside.clients.items c.self.inside.judged c.self.invariant
    (entered c.self.inside.ring c.enqueue.new.self c.entry-entry.result (full_refusal c.self.inside.ring) c.enqueue.result c.self.invariant.sound ruled c.enqueue.ensures.answer c.enqueue.ensures.err)
    refl
