use Rattle.std.proofs.Common.{ap, length, List, sym, subst, ◌∙◌}
use Rattle.cpg_node.specs.declared.connections.Client.{Client}
use Rattle.cpg_serve.specs.Serving.{ServedValue, served_of}
use Rattle.cpg_serve.specs.Settling.{MovesTo}
use Rattle.cpg_serve.proofs.served.Served.turn.Goals as goal

pub invariant_of-self : goal.invariant_of-self
invariant_of-self c = c.self.invariant ∙ sym (ap (λ (cs : List Client). length cs) c.turn_until_still.ensures.did.clients)

pub returns-clause-moves : goal.returns-clause-moves
returns-clause-moves c =
    let g = c.self.inside.greeting in
    let desks = c.self.inside.desks.items in
    subst (λ (x : ServedValue). MovesTo x (served_of g c.turn_until_still.new.node desks)) c.self.view_is (c.turn_until_still.ensures.did.moves g desks)
