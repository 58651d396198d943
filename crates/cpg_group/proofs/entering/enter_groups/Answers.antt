use Rattle.std.proofs.Common.{ap, sym, subst, ◌∙◌, Some}
use Rattle.cpg_record.specs.Judging.{record_of, entry_group}
use Rattle.cpg_record.proofs.Elsewhere.{named_group}
use Rattle.cpg_group.specs.Standing.{GroupValue, no_group, standing_for, CanChange}
use Rattle.cpg_group.proofs.Entered.{group_entered}
use Rattle.cpg_group.proofs.Placed.{within_names, kept_there, kept_same_there, kept_set_there}
use Rattle.cpg_record.proofs.Named.{on_ok, on_err}
use Rattle.cpg_group.proofs.entering.enter_groups.Goals as goal

pub pair_mut-group-requires : goal.pair_mut-group-requires
pair_mut-group-requires c =
    within_names c.as_slice.result.now c.groups-in-Some.inside.kept.entries c.args.groups.now c.groups-in-Some.view_is c.in-Some-index_of.index c.in-Some-index_of.ensures

pub enter_group-requires-clause-can : goal.enter_group-requires-clause-can
enter_group-requires-clause-can c allowed =
    let name = c.as_slice.result.now in
    let called = ap Some c.as_slice.ensures ∙ c.in-Some.ensures in
    subst (λ (group : GroupValue). CanChange group c.args.place (record_of c.args.records.now c.args.next.now.entry))
    (sym (kept_there c.as_slice.result.now c.groups-in-Some.inside.kept.entries c.args.groups.now c.groups-in-Some.view_is c.in-Some-index_of.index c.in-Some-index_of.ensures c.pair_mut-group.result.0.now c.pair_mut-group.result.1.now c.pair_mut-group.ensures.unique c.pair_mut-group.ensures.value no_group))
    (c.requires.entry.2 name allowed ((named_group (entry_group c.args.records.now c.args.next.now.entry c.args.next.now.entry.op) name).1 (sym called)))

pub enter_group-requires-clause-group : goal.enter_group-requires-clause-group
enter_group-requires-clause-group c =
    kept_there c.as_slice.result.now c.groups-in-Some.inside.kept.entries c.args.groups.now c.groups-in-Some.view_is c.in-Some-index_of.index c.in-Some-index_of.ensures c.pair_mut-group.result.0.now c.pair_mut-group.result.1.now c.pair_mut-group.ensures.unique c.pair_mut-group.ensures.value no_group
    ∙ c.requires.entry.1 c.as_slice.result.now ∙ ap (standing_for c.args.records.now) (ap Some c.as_slice.ensures ∙ c.in-Some.ensures)

pub returns-in-Some-index_of-clause-past : goal.returns-in-Some-index_of-clause-past
returns-in-Some-index_of-clause-past c =
    let name = c.as_slice.result.now in
    let kept = kept_there c.as_slice.result.now c.groups-in-Some.inside.kept.entries c.args.groups.now c.groups-in-Some.view_is c.in-Some-index_of.index c.in-Some-index_of.ensures c.pair_mut-group.result.0.now c.pair_mut-group.result.1.now c.pair_mut-group.ensures.unique c.pair_mut-group.ensures.value no_group in
    let set = kept_set_there c.as_slice.result.now c.groups-in-Some.inside.kept.entries c.args.groups.now c.groups-in-Some.view_is c.in-Some-index_of.index c.in-Some-index_of.ensures c.pair_mut-group.result.0.now c.pair_mut-group.result.1.now c.pair_mut-group.ensures.unique c.pair_mut-group.ensures.value no_group c.enter_group.new.group in
    on_ok c.enter_group.result
    (λ is. λ g.
    set g
    ∙ group_entered c.args.groups.now name g c.pair_mut-group.result.1.now c.enter_group.new.group c.args.place (record_of c.args.records.now c.args.next.now.entry) kept (ap Some c.as_slice.ensures ∙ c.in-Some.ensures) is)
    c.enter_group.ensures.past

pub returns-in-Some-index_of-clause-same : goal.returns-in-Some-index_of-clause-same
returns-in-Some-index_of-clause-same c =
    on_err c.enter_group.result
    (kept_same_there c.as_slice.result.now c.groups-in-Some.inside.kept.entries c.args.groups.now c.groups-in-Some.view_is c.in-Some-index_of.index c.in-Some-index_of.ensures c.pair_mut-group.result.0.now c.pair_mut-group.result.1.now c.pair_mut-group.ensures.unique c.pair_mut-group.ensures.value no_group c.enter_group.new.group)
    c.enter_group.ensures.same
