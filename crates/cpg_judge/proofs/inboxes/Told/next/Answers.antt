use Rattle.std.proofs.Common.{ap, sym, subst, ◌∙◌, length, arith}
use Rattle.cpg_judge.specs.Inboxes.{ToldValue}
use Rattle.cpg_judge.specs.Texts.{HoldsTexts, texts_upto}
use Rattle.cpg_judge.proofs.Own.{line_after, place_left}
use Rattle.cpg_judge.proofs.inboxes.Told.next.Goals as goal

pub returns-then-self : goal.returns-then-self
returns-then-self c = λ rs place r past is acts.
    line_after rs place r c.args.self.now.group is acts c.self.inside.text.now c.range.result.now c.self.inside.passed
    (ap (λ (value : ToldValue). value.passed) c.self.view_is ∙ past.1)
    (subst (λ text. HoldsTexts text (texts_upto rs c.args.self.now.group (length rs))) (sym (ap (λ (value : ToldValue). value.text) c.self.view_is)) past.0.1)
    c.range.ensures

pub returns-else-self : goal.returns-else-self
returns-else-self c = λ rs place r past is acts.
    let some = place_left rs place r c.args.self.now.group is acts in
    absurd (omega (
      arith,
      c.if-self.false,
      some,
      ap (λ (value : ToldValue). value.passed) c.self.view_is ∙ past.1,
      ap (λ (value : ToldValue). length value.places) c.self.view_is ∙ ap length past.0.0,
    ))
