use Rattle.std.proofs.Common.{◌-◌, length, get_or, ap, ◌∙◌, arith}
use Rattle.cpg_judge.proofs.Ends.{end_at, ends_length}
use Rattle.cpg_json.proofs.tails.Tails.end.Goals as goal

pub returns-then-count-len : goal.returns-then-count-len
returns-then-count-len c = λ texts h within. c.index.ensures ∙ ap (λ value. get_or value.ends (c.args.count - 1) c.index.result.now) c.self.view_is ∙ end_at c.args.self.now texts c.args.count c.index.result.now h (omega (arith, c.if-count-eq0.false)) within

pub returns-else-count-len : goal.returns-else-count-len
returns-else-count-len c = λ texts h within. absurd (omega (arith, c.if-count-len.false, c.len.ensures, ap (λ value. length value.ends) c.self.view_is, ap length h.1, ends_length 0 texts, within))
