use Rattle.std.proofs.Common.{ap, sym, ◌∙◌}
use Rattle.std.specs.Prelude.{is_some}
use Rattle.cpg_record.specs.Judging.{judged}
use Rattle.cpg_record.specs.Named.{found_or}
use Rattle.cpg_judge.specs.Texts.{KeptTexts, TextValue, no_text, kept_text, told_text, with_place}
use Rattle.cpg_record.proofs.Named.{on_ok, kept_set, kept_grown}
use Rattle.cpg_judge.proofs.Keyed.{within_names, found_there, set_there}
use Rattle.cpg_judge.proofs.texts.Texts.put_allowed.Goals as goal

pub pair_mut-text-requires : goal.pair_mut-text-requires
pair_mut-text-requires c =
    within_names c.args.name.now c.self.inside.kept.entries c.args.self.now c.self.view_is c.in-Some.index c.in-Some.ensures

pub put_place-requires-clause-members : goal.put_place-requires-clause-members
put_place-requires-clause-members c =
    let found = found_there c.args.name.now c.self.inside.kept.entries c.args.self.now c.self.view_is c.in-Some.index c.in-Some.ensures c.pair_mut-text.result.0.now c.pair_mut-text.result.1.now c.pair_mut-text.ensures.unique c.pair_mut-text.ensures.value in
    ap (λ (value : TextValue). (with_place c.args.placed.now.past.now (told_text (judged c.args.placed.now.policy.now) c.args.placed.now.place) value).members) (ap (found_or no_text) found) ∙ c.requires.members

pub returns-in-Some-clause-ok : goal.returns-in-Some-clause-ok
returns-in-Some-clause-ok c =
    let line = told_text (judged c.args.placed.now.policy.now) c.args.placed.now.place in
    let found = found_there c.args.name.now c.self.inside.kept.entries c.args.self.now c.self.view_is c.in-Some.index c.in-Some.ensures c.pair_mut-text.result.0.now c.pair_mut-text.result.1.now c.pair_mut-text.ensures.unique c.pair_mut-text.ensures.value in
    let set = set_there c.args.name.now c.self.inside.kept.entries c.args.self.now c.self.view_is c.in-Some.index c.in-Some.ensures c.pair_mut-text.result.0.now c.pair_mut-text.result.1.now c.pair_mut-text.ensures.unique c.pair_mut-text.ensures.value c.put_place.new.self in
    on_ok c.put_place.result
    (λ is. λ g.
    ap (λ (kept : KeptTexts). kept_text kept g) set
    ∙ kept_set no_text c.args.self.now c.args.name.now c.put_place.new.self g (sym (ap is_some found))
    ∙ kept_grown no_text c.args.self.now c.args.name.now g c.pair_mut-text.result.1.now c.put_place.new.self (with_place c.args.placed.now.past.now line) (ap (found_or no_text) found) is)
    c.put_place.ensures.ok
