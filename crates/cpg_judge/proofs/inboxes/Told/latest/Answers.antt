use Rattle.std.proofs.Common.{ap, sym, subst, ◌∙◌, length, arith}
use Rattle.cpg_judge.specs.Inboxes.{ToldValue}
use Rattle.cpg_judge.specs.Texts.{HoldsTexts, texts_upto}
use Rattle.cpg_judge.proofs.Own.{line_upto, one_more}
use Rattle.cpg_judge.proofs.inboxes.Told.latest.Goals as goal

pub returns-then-self-eq0 : goal.returns-then-self-eq0
returns-then-self-eq0 c = λ rs place r past is acts.
    let some = one_more rs place r c.args.self.now.group is acts in
    absurd (omega (arith, c.if-self-eq0.true, some, ap (λ (value : ToldValue). value.passed) c.self.view_is ∙ past.1))

pub returns-else-self-eq0 : goal.returns-else-self-eq0
returns-else-self-eq0 c = λ rs place r past is acts.
    line_upto rs place r c.args.self.now.group is acts c.self.inside.text.now c.range.result.now c.self.inside.passed
    (ap (λ (value : ToldValue). value.passed) c.self.view_is ∙ past.1)
    (subst (λ text. HoldsTexts text (texts_upto rs c.args.self.now.group (length rs))) (sym (ap (λ (value : ToldValue). value.text) c.self.view_is)) past.0.1)
    c.range.ensures
