use Rattle.std.proofs.Common.{length, sym, ap, subst, refl, arith}
use Rattle.cpg_ring.specs.Rings.{RingNode}
use Rattle.cpg_node.specs.Kept.{IsNodeKept}
use Rattle.cpg_node.proofs.Keeping.{sound_new}
use Rattle.cpg_node.proofs.nodes.Node.new.Goals as goal

pub invariant_of-result : goal.invariant_of-result
invariant_of-result c =
    subst (λ (r : RingNode). IsNodeKept c.args.id r c.new-in-Ok.result.items c.new-in-Ok-2.result) (sym c.in-Ok.ensures.1)
    (record { numbered = refl; judged = c.new-in-Ok-2.ensures; sound = sound_new c.args.settings c.args.id; counted = let e = ap length c.new-in-Ok.ensures.items in omega arith })
