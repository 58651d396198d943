use Rattle.std.proofs.Common.{◌≡◌, ◌-◌, take, drop, length, ap, ◌∙◌, arith}
use Rattle.std.specs.List.{concat}
use Rattle.cpg_judge.proofs.Ends.{cut_out, ends_within}
use Rattle.cpg_json.proofs.tails.Tails.range.Goals as goal
use Rattle.cpg_json.proofs.tails.Tails.range.Goals.{else-start-end-via-then-start-end+else-end-len, else-start-end-via-else-start-end}

pub returns-then-end-len : goal.returns-then-end-len
returns-then-end-len c = λ texts h low within.
    let start = c.end-start.ensures texts h (omega (arith, low, within)) in
    let end = c.end-end.ensures texts h within in
    let all : c.deref.result.now ≡ concat texts = c.deref.ensures.value ∙ ap (λ value. value.text) c.self.view_is ∙ h.0 in
    ap (λ s. take (c.end-end.result - s) (drop s c.deref.result.now)) start
    ∙ ap (λ e. take (e - length (concat (take c.args.from texts))) (drop (length (concat (take c.args.from texts))) c.deref.result.now)) end
    ∙ ap (λ l. take (length (concat (take c.args.to texts)) - length (concat (take c.args.from texts))) (drop (length (concat (take c.args.from texts))) l)) all
    ∙ cut_out texts c.args.from c.args.to low

pub returns-else-start-end : goal.returns-else-start-end
returns-else-start-end c = λ texts h low within.
    let start = c.end-start.ensures texts h (omega (arith, low, within)) in
    let end = c.end-end.ensures texts h within in
    let bounds = ends_within texts c.args.from c.args.to low in
    elim c.else-start-end.branch [
      | else-start-end-via-then-start-end+else-end-len w ↦ absurd (omega (arith, w.if-end-len.false, w.len.ensures, ap (λ value. length value.text) c.self.view_is, ap length h.0, end, bounds.1))
      | else-start-end-via-else-start-end w ↦ absurd (omega (arith, w.if-start-end.false, start, end, bounds.0))
    ]
