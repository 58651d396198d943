use Rattle.std.proofs.Common.{List, ℕ, ap, sym, subst, ◌∙◌}
use Rattle.std.specs.List.{concat}
use Rattle.cpg_judge.specs.Inboxes.{count_at, told_between, IsHeard}
use Rattle.cpg_judge.proofs.Telling.{heard_in, heard_nothing}
use Rattle.cpg_judge.proofs.inboxes.pass.Goals as goal

pub returns-in-None-clause-text : goal.returns-in-None-clause-text
returns-in-None-clause-text c = λ rs conn after told low within quiet.
    ap concat (sym (heard_nothing rs conn after c.args.last low within quiet
    (subst (IsHeard rs conn after) c.in-None.is told)))

pub returns-in-Some-clause-text : goal.returns-in-Some-clause-text
returns-in-Some-clause-text c = λ rs conn after told low within quiet.
    let found = subst (IsHeard rs conn after) c.in-Some.is told in
    let brought = c.brought_to-told.ensures rs after found.1 low within in
    let from = c.passed-passed.ensures ∙ found.1.1 ∙ ap (λ (g : List ℕ). count_at rs g after) (sym brought.0) in
    c.since.ensures rs after c.args.last brought.1 from low within
    ∙ ap (λ (g : List ℕ). told_between rs g after c.args.last) brought.0
    ∙ heard_in rs conn c.in-Some.told.group after c.args.last low within quiet found.0
