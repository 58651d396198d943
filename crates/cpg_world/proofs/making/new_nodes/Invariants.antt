use Rattle.std.proofs.Common.{◌≡◌, map}
use Rattle.cpg_ring.specs.Visits.{up_to}
use Rattle.cpg_node.specs.Nodes.{new_value}
use Rattle.cpg_world.proofs.making.new_nodes.Given as goal

abbrev pub invariant-loop-before : goal.invariant-loop-before
invariant-loop-before l = l.nodes.items ≡ map (λ n. new_value l.settings n l.list) (up_to l.before)
