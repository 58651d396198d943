use Rattle.std.proofs.Common.{ap, sym, subst}
use Rattle.cpg_record.specs.Named.{found_or}
use Rattle.cpg_group.specs.Standing.{GroupValue, no_group, changed, CanChange}
use Rattle.cpg_record.proofs.Named.{on_ok, on_err}
use Rattle.cpg_group.proofs.Placed.{within_names, kept_there, kept_grown_there, kept_same_there}
use Rattle.cpg_group.proofs.standing.Groups.change.Goals as goal

pub pair_mut-group-requires : goal.pair_mut-group-requires
pair_mut-group-requires c =
    within_names c.args.name.now c.self.inside.kept.entries c.args.self.now c.self.view_is c.in-Some.index c.in-Some.ensures

pub take_in-requires : goal.take_in-requires
take_in-requires c =
    subst (λ (group : GroupValue). CanChange group c.args.place c.args.past.now)
    (sym (kept_there c.args.name.now c.self.inside.kept.entries c.args.self.now c.self.view_is c.in-Some.index c.in-Some.ensures c.pair_mut-group.result.0.now c.pair_mut-group.result.1.now c.pair_mut-group.ensures.unique c.pair_mut-group.ensures.value no_group)) c.requires

pub add-requires-clause-can : goal.add-requires-clause-can
add-requires-clause-can c =
    subst (λ (group : GroupValue). CanChange group c.args.place c.args.past.now) (ap (found_or no_group) c.in-None.ensures) c.requires

pub returns-in-Some-clause-ok : goal.returns-in-Some-clause-ok
returns-in-Some-clause-ok c =
    on_ok c.take_in.result
    (kept_grown_there c.args.name.now c.self.inside.kept.entries c.args.self.now c.self.view_is c.in-Some.index c.in-Some.ensures c.pair_mut-group.result.0.now c.pair_mut-group.result.1.now c.pair_mut-group.ensures.unique c.pair_mut-group.ensures.value no_group c.take_in.new.self (changed c.args.place c.args.past.now))
    c.take_in.ensures.ok

pub returns-in-Some-clause-err : goal.returns-in-Some-clause-err
returns-in-Some-clause-err c =
    on_err c.take_in.result
    (kept_same_there c.args.name.now c.self.inside.kept.entries c.args.self.now c.self.view_is c.in-Some.index c.in-Some.ensures c.pair_mut-group.result.0.now c.pair_mut-group.result.1.now c.pair_mut-group.ensures.unique c.pair_mut-group.ensures.value no_group c.take_in.new.self)
    c.take_in.ensures.err
