use Rattle.std.proofs.Common.{◌-◌, length, get_or, ap, ◌∙◌, arith}
use Rattle.cpg_judge.proofs.Ends.{end_at, ends_length}
use Rattle.cpg_judge.proofs.texts.Text.end.Goals as goal

pub returns-then-count-len : goal.returns-then-count-len
returns-then-count-len c = λ texts h within. ap (λ ends. get_or ends (c.args.count - 1) 0) (c.as_slice.ensures ∙ ap (λ value. value.ends) c.self.view_is) ∙ end_at c.args.self.now texts c.args.count 0 h (omega (arith, c.if-count-eq0.false)) within

pub returns-else-count-len : goal.returns-else-count-len
returns-else-count-len c = λ texts h within. absurd (omega (arith, c.if-count-len.false, c.len.ensures, ap (λ value. length value.ends) c.self.view_is, ap length h.1, ends_length 0 texts, within))
