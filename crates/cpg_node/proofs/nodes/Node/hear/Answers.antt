use Rattle.std.proofs.Common.{All, sym, subst}
use Rattle.cpg_entry.specs.declared.frames.Frame.TheVariants as frames
use Rattle.cpg_ring.specs.States.{Frame}
use Rattle.cpg_node.specs.Answers.{CanBeSpelled}
use Rattle.cpg_node.specs.Calls.{answers_to}
use Rattle.cpg_node.specs.Nodes.{NodeValue}
use Rattle.cpg_node.proofs.Keeping.{token_heard}
use Rattle.cpg_node.proofs.nodes.Node.hear.Goals as goal

pub returns-in_ok-list-in-Token-clause-range : goal.returns-in_ok-list-in-Token-clause-range
returns-in_ok-list-in-Token-clause-range c =
    let x : NodeValue = record { ring = c.self.inside.ring; list = c.self.inside.list; clients = c.self.inside.clients.items } in
    let heard = (token_heard x c.in-Token.token c.in_ok-list-in-Token.ensures.answer.0).0 in
    let here : All CanBeSpelled (answers_to x (frames.Token c.in-Token.token)) = subst (All CanBeSpelled) (sym heard) c.in_ok-list-in-Token.ensures.range in
    let now = subst (λ (y : NodeValue). All CanBeSpelled (answers_to y (frames.Token c.in-Token.token))) c.self.view_is here in
    subst (λ (f : Frame). All CanBeSpelled (answers_to c.args.self.now f)) (sym c.in-Token.is) now
