use Rattle.std.proofs.Common.{sym, arith}
use Rattle.std.proofs.lemmas.List.{length-take-le, take_all}
use Rattle.cpg_accept.proofs.admit.telling.cut_to.Goals as goal

pub slice_bounds-result-end : goal.slice_bounds-result-end
slice_bounds-result-end c = sym (length-take-le 120 c.args.line.now (omega (arith, c.if-line-le120.false)))

pub returns-then-line-le120 : goal.returns-then-line-le120
returns-then-line-le120 c = sym (take_all 120 c.args.line.now (omega (arith, c.if-line-le120.true)))
