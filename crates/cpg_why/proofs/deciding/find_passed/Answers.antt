use Rattle.std.proofs.Common.{◌≡◌, ℕ, ◌<◌, ◌++◌, List, Option, length, sym, ap, ◌∙◌, arith}
use Rattle.cpg_rules.specs.declared.rules.Rule.{Rule}
use Rattle.cpg_why.specs.declared.findings.PassedRule.{PassedRule}
use Rattle.cpg_why.specs.Deciding.{passed_by, passed_one}
use Rattle.cpg_why.proofs.Tabled.{passed_more, stands_at}
use Rattle.cpg_why.proofs.deciding.find_passed.Goals as goal

pub loop-index-preserved : goal.loop-index-preserved
loop-index-preserved c =
    let within : c.loop-index.index < length c.args.table.now = omega arith in
    let at = stands_at c.args.table.now c.loop-index.index within in
    c.in_ok-pass_at.ensures.ok
    ∙ ap (λ (o : Option (ℕ × Rule)). c.loop-index.passed ++ passed_by c.args.right c.args.asker.now c.loop-index.index o) at.1
    ∙ ap (λ (xs : List PassedRule). xs ++ passed_one c.args.right c.args.asker.now (c.loop-index.index, at.0)) c.loop-index.invariant
    ∙ sym (passed_more c.args.right c.args.asker.now c.args.table.now c.loop-index.index at.0 at.1)
