use Rattle.std.proofs.Common.{◌++◌, ◌∷◌, [], sym, ap, ◌∙◌, subst}
use Rattle.std.specs.Option.{option_copied}
use Rattle.cpg_entry.specs.declared.entries.Entry.{Entry}
use Rattle.cpg_ring.specs.Rings.{RingNode}
use Rattle.cpg_node.specs.Kept.{IsNodeKept}
use Rattle.cpg_node.proofs.Keeping.{can_judge, delivered_next}
use Rattle.cpg_node.proofs.nodes.Node.deliver.Goals as goal

pub enter-requires : goal.enter-requires
enter-requires c = can_judge c.self.inside.ring c.self.inside.judged _ c.self.invariant.judged c.self.invariant.sound (sym c.next_place.ensures.entry ∙ ap option_copied c.in-Some.is)

pub invariant_of-self : goal.invariant_of-self
invariant_of-self c =
    let held = sym c.next_place.ensures.entry ∙ ap option_copied c.in-Some.is in
    let k = delivered_next c.self.inside.ring c.self.inside.judged c.in-Some.entry.now c.self.invariant.judged c.self.invariant.sound held in
    subst (λ (r : RingNode). IsNodeKept c.self.inside.id r c.self.inside.clients.items c.enter.new.self) (sym c.advance.ensures)
    (record {
      numbered = c.self.invariant.numbered;
      judged = c.in-Ok.ensures.ok ∙ ap (λ (e : Entry). c.self.inside.judged ++ e ∷ []) c.in_ok-entry.ensures.ok ∙ k.1;
      sound = k.0;
      counted = c.self.invariant.counted;
    })
