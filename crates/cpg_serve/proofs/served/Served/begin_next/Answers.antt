use Rattle.std.proofs.Common.{subst, ◌∙◌}
use Rattle.cpg_serve.specs.Serving.{ServedValue, served_of}
use Rattle.cpg_serve.specs.Carrying.{IsRenewed}
use Rattle.cpg_serve.proofs.Moved.{greeting_is, renewed_is}
use Rattle.cpg_serve.proofs.served.Served.begin_next.Goals as goal

pub returns-clause-ok : goal.returns-clause-ok
returns-clause-ok c =
    subst (λ (x : ServedValue). IsRenewed c.args.settings c.args.list.now c.in_ok-numbers.numbers.items x (served_of c.greeting_in-self-inside.result c.renew_at.new.node c.renew_at.new.desks.items)) c.self.view_is
    (renewed_is c.args.settings c.args.list.now c.in_ok-numbers.numbers.items c.self.inside.greeting c.greeting_in-self-inside.result c.self.inside.node c.renew_at.new.node c.self.inside.desks.items c.renew_at.new.desks.items
    (c.greeting_in-self-inside.ensures ∙ greeting_is c.args.settings c.args.list.now c.in_ok-numbers.numbers.items c.self.inside.node c.renew_at.new.node c.in_ok-numbers.ensures.ok.0) c.in_ok-numbers.ensures.ok.0 c.in_ok-numbers.ensures.ok.1)
