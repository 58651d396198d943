use Rattle.std.proofs.Common.{ap, sym, subst, ◌∙◌, length}
use Rattle.cpg_judge.specs.Inboxes.{ToldValue}
use Rattle.cpg_judge.specs.Texts.{HoldsTexts, texts_upto}
use Rattle.cpg_judge.proofs.Telling.{told_cut}
use Rattle.cpg_judge.proofs.inboxes.Told.since.Goals as goal

pub returns : goal.returns
returns c = λ rs after last past from low within.
    told_cut rs c.args.self.now.group after last c.self.inside.text.now c.range.result.now c.args.passed c.self.inside.passed low within
    from (ap (λ (value : ToldValue). value.passed) c.self.view_is ∙ past.1)
    (subst (λ text. HoldsTexts text (texts_upto rs c.args.self.now.group (length rs))) (sym (ap (λ (value : ToldValue). value.text) c.self.view_is)) past.0.1)
    c.range.ensures
