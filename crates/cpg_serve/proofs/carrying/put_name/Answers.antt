use Rattle.std.proofs.Common.{◌∷◌, [], List, ℕ, ap, ◌∙◌}
use Rattle.cpg_serve.specs.Carrying.{with_names}
use Rattle.cpg_serve.proofs.Gathered.{name_put}
use Rattle.cpg_serve.proofs.carrying.put_name.Goals as goal

pub returns-clause-ok : goal.returns-clause-ok
returns-clause-ok c = c.in_ok-insert.ensures.keys ∙ name_put c.args.names.now.keys _ ∙ ap (λ (g : List ℕ). with_names c.args.names.now.keys (g ∷ [])) c.in_ok-group.ensures.ok
