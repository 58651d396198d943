-- what `retain` keeps is what the definition's filter keeps
use Rattle.std.proofs.Common.{rules, not, ◌==◌}
use Rattle.std.proofs.lemmas.Fn.{filter_same}
use Rattle.cpg_rules.proofs.tables.Table.remove.Goals as goal

pub returns-clause-after : goal.returns-clause-after
returns-clause-after c =
    rw (← c.self.view_is) (filter_same _ (λ entry. not (entry.0 == c.args.id)) _ (λ x b q h. search rules) _ _ c.retain.ensures.filtered)
