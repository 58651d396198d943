use Rattle.std.proofs.Common.{◌<◌, length, sym, ◌∙◌, arith}
use Rattle.cpg_rules.specs.Decision.{speaks}
use Rattle.cpg_why.proofs.Tabled.{first_here, first_later, stands_at}
use Rattle.cpg_why.proofs.deciding.find_first.Goals as goal

pub returns-then-speaks_at-clause-first : goal.returns-then-speaks_at-clause-first
returns-then-speaks_at-clause-first c =
    let within : c.loop-index.index < length c.args.table.now = omega (arith, c.len-index-end.ensures) in
    let at = stands_at c.args.table.now c.loop-index.index within in
    first_here (speaks c.args.right c.args.asker.now) c.args.table.now c.loop-index.index at.0 at.1
    (sym (c.speaks_at.ensures at.0 at.1) ∙ c.if-speaks_at.true) c.loop-index.invariant

pub loop-index-preserved : goal.loop-index-preserved
loop-index-preserved c =
    let within : c.loop-index.index < length c.args.table.now = omega (arith, c.len-index-end.ensures) in
    let at = stands_at c.args.table.now c.loop-index.index within in
    first_later (speaks c.args.right c.args.asker.now) c.args.table.now c.loop-index.index at.0 at.1
    (sym (c.speaks_at.ensures at.0 at.1) ∙ c.if-speaks_at.false) c.loop-index.invariant
