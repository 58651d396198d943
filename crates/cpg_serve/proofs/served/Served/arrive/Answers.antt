use Rattle.std.proofs.Common.{◌≡◌, suc, List, [], ◌∷◌, ◌++◌, length, sym, ap, subst, ◌∙◌}
use Rattle.cpg_node.specs.Nodes.{NodeValue}
use Rattle.cpg_node.specs.Calls.{connected}
use Rattle.cpg_serve.specs.Telling.{DeskValue, new_desk}
use Rattle.cpg_serve.specs.Serving.{ServedValue, served_of, arrived}
use Rattle.cpg_serve.specs.Stories.{StoryAt, nothing_before}
use Rattle.cpg_serve.proofs.Running.{begins}
use Rattle.cpg_serve.proofs.served.Served.arrive.Goals as goal

pub returns-clause-begins : goal.returns-clause-begins
returns-clause-begins c =
    let g = c.self.inside.greeting in
    let x : ServedValue = served_of g c.self.inside.node c.self.inside.desks.items in
    let node : c.connect.new.self ≡ connected x.node c.args.pid c.args.cred = c.in_ok-conn.ensures.answer.1.1 in
    let desks : c.push_reserved.new.self.items ≡ x.desks ++ new_desk g ∷ [] = cc in
    let is : arrived x c.args.pid c.args.cred ≡ served_of g c.connect.new.self c.push_reserved.new.self.items =
    ap (λ (n : NodeValue). served_of g n (x.desks ++ new_desk g ∷ [])) (sym node) ∙ ap (λ (ds : List DeskValue). served_of g c.connect.new.self ds) (sym desks) in
    subst (λ (w : ServedValue). StoryAt nothing_before (suc (length w.desks)) [] [] (served_of g c.connect.new.self c.push_reserved.new.self.items)) c.self.view_is
    (subst (λ (y : ServedValue). StoryAt nothing_before (suc (length x.desks)) [] [] y) is (begins c.args.pid c.args.cred x c.self.invariant))
