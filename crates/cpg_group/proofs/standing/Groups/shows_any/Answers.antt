use Rattle.std.proofs.Common.{map, ap, sym, ◌∙◌}
use Rattle.std.specs.Prelude.{filter}
use Rattle.cpg_group.specs.Groups.{is_shown}
use Rattle.cpg_record.specs.Named.{names_of}
use Rattle.cpg_group.proofs.Kept.{keys_named, take_past}
use Rattle.cpg_group.proofs.Shown.{shows_none}
use Rattle.cpg_group.proofs.standing.Groups.shows_any.Goals as goal

pub returns-clause-none : goal.returns-clause-none
returns-clause-none c =
    let named = ap (map (λ key. key.items)) (take_past c.loop-name.name-index c.as_slice-name-items.result.now c.loop-name-test.false ∙ c.as_slice-name-items.ensures ∙ c.keys.ensures.rest)
    ∙ keys_named c.self.inside.kept.entries ∙ ap names_of c.self.view_is in
    λ _. shows_none c.args.self.now c.args.records.now c.args.asker.now c.requires
    (sym (ap (filter (is_shown c.args.records.now c.args.asker.now)) named) ∙ c.loop-name.invariant)
