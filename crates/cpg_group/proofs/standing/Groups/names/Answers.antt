use Rattle.std.proofs.Common.{bytes_eq, map, ap, sym, subst, ◌∙◌}
use Rattle.std.specs.List.{IsDistinct}
use Rattle.cpg_record.specs.Named.{names_of}
use Rattle.cpg_group.proofs.Kept.{keys_named, names_apart, take_past}
use Rattle.cpg_group.proofs.standing.Groups.names.Goals as goal

pub returns-clause-ok : goal.returns-clause-ok
returns-clause-ok c =
    c.loop-name.invariant
    ∙ ap (map (λ key. key.items)) (take_past c.loop-name.name-index c.as_slice-name-items.result.now c.loop-name-test.false ∙ c.as_slice-name-items.ensures ∙ c.keys.ensures.rest)
    ∙ keys_named c.self.inside.kept.entries ∙ ap names_of c.self.view_is

pub returns-clause-once : goal.returns-clause-once
returns-clause-once c =
    subst (IsDistinct bytes_eq)
    (sym (c.loop-name.invariant
    ∙ ap (map (λ key. key.items)) (take_past c.loop-name.name-index c.as_slice-name-items.result.now c.loop-name-test.false ∙ c.as_slice-name-items.ensures ∙ c.keys.ensures.rest)
    ∙ keys_named c.self.inside.kept.entries))
    (names_apart c.self.inside.kept.entries c.keys.ensures.unique)
