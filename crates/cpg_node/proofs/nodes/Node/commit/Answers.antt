use Rattle.std.proofs.Common.{◌≡◌, Some, sym, ◌∙◌, subst}
use Rattle.cpg_ring.specs.Rings.{RingNode}
use Rattle.cpg_node.specs.Nodes.{NodeValue}
use Rattle.cpg_node.specs.Calls.{next_record}
use Rattle.cpg_node.specs.Kept.{IsNodeKept}
use Rattle.cpg_node.proofs.Keeping.{is_next, committed}
use Rattle.cpg_node.proofs.nodes.Node.commit.Goals as goal

pub apply-requires : goal.apply-requires
apply-requires c = is_next c.self.inside.ring c.self.inside.judged c.args.next c.self.invariant.judged c.self.invariant.sound (subst (λ (x : NodeValue). next_record x ≡ Some c.args.next) (sym c.self.view_is) c.requires)

pub invariant_of-self : goal.invariant_of-self
invariant_of-self c =
    let k = committed c.self.inside.ring c.self.inside.judged c.args.next c.self.invariant.judged c.self.invariant.sound (subst (λ (x : NodeValue). next_record x ≡ Some c.args.next) (sym c.self.view_is) c.requires) in
    subst (λ (r : RingNode). IsNodeKept c.self.inside.id r c.self.inside.clients.items c.apply.new.self) (sym c.advance.ensures)
    (record { numbered = c.self.invariant.numbered; judged = c.in-Ok.ensures.ok ∙ k.1; sound = k.0; counted = c.self.invariant.counted })
