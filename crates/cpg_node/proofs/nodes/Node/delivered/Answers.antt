use Rattle.std.proofs.Common.{◌≡◌, length, sym, ◌∙◌, subst}
use Rattle.cpg_node.specs.Nodes.{NodeValue, records_of}
use Rattle.cpg_node.proofs.Keeping.{delivered_count}
use Rattle.cpg_node.proofs.nodes.Node.delivered.Goals as goal

pub returns-clause-count : goal.returns-clause-count
returns-clause-count c =
    subst (λ (x : NodeValue). length (records_of x) ≡ c.delivered.result) c.self.view_is (delivered_count c.self.inside.ring.state c.self.invariant.sound.delivered ∙ sym c.delivered.ensures.value)
