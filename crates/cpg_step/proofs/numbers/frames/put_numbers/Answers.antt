use Rattle.std.proofs.Common.{◌≡◌, ◌-◌, ◌++◌, ap, ◌∙◌, arith}
use Rattle.cpg_step.specs.Numbers.{numbers_after}
use Rattle.cpg_step.proofs.NumberedLines.{numbers_more}
use Rattle.cpg_step.proofs.numbers.frames.put_numbers.Goals as goal

pub loop-index-preserved : goal.loop-index-preserved
loop-index-preserved c =
    numbers_more c.args.before c.loop-index.index c.args.text.now.items c.loop-index.text.items c.put.new.line.items c.push_number.new.line.items
    c.loop-index.auto.index c.loop-index.invariant c.in_ok-put.ensures.ok c.in_ok-push_number.ensures.ok

pub returns-clause-ok : goal.returns-clause-ok
returns-clause-ok c =
    let same : c.loop-index.index - c.args.before ≡ c.args.after - c.args.before = omega (arith, c.loop-index.auto.index-end c.requires) in
    c.loop-index.invariant ∙ ap (λ n. c.args.text.now.items ++ numbers_after c.args.before n) same
