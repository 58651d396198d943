use Rattle.std.proofs.Common.{◌≡◌, ◌+◌, ◌≤◌, ◌<◌, ℕ, Some, None, length, rules, arith, subst}
use Rattle.std.specs.List.{slice_get}
use Rattle.std.proofs.lemmas.List.{take_all}
use Rattle.cpg_rules.specs.declared.rules.Rule.{Rule}
use Rattle.cpg_rules.specs.Tables.{Rules}
use Rattle.cpg_serve.specs.Renewing.{bare, inserts}
use Rattle.cpg_serve.specs.Carrying.{HasPut}
use Rattle.cpg_serve.proofs.Begun.{put_more}
use Rattle.cpg_serve.proofs.Refused.{puts_why, rule_there, no_rule_more}
use Rattle.cpg_serve.proofs.renewing.insert_all.Goals as goal

pub insert_one-requires : goal.insert_one-requires
insert_one-requires c =
    let within = rule_there c.args.table.now c.loop-rule.index (c.in-Some.field-0-0, c.in-Some.rule) (search rules) in
    omega (arith, within, c.requires)

pub loop-rule-preserved : goal.loop-rule-preserved
loop-rule-preserved c =
    let entry : ℕ × Rule = (c.in-Some.field-0-0, c.in-Some.rule) in
    let found : slice_get c.args.table.now c.loop-rule.index ≡ Some entry = search rules in
    let within = rule_there c.args.table.now c.loop-rule.index entry found in
    record {
      put = λ root own. put_more root c.args.group.now c.args.table.now c.loop-rule.index (c.loop-rule.index + 1) entry c.args.node.now c.loop-rule.node c.insert_one.new.node (omega arith) found
          (c.loop-rule.invariant.put root own) (c.in_ok-insert_one.ensures.ok root own);
      within = omega (arith, within);
    }

pub returns-in_err-insert_one-clause-why : goal.returns-in_err-insert_one-clause-why
returns-in_err-insert_one-clause-why c = λ root es own r b.
    let within = rule_there c.args.table.now c.loop-rule.index (c.in-Some.field-0-0, c.in-Some.rule) (search rules) in
    let why = puts_why root c.args.group.now c.args.table.now c.loop-rule.index c.args.node.now c.loop-rule.node es _ within (c.loop-rule.invariant.put root own) r b
    (λ fs s d. c.in_err-insert_one.ensures.why root fs own s d) in
    search rules

pub returns : goal.returns
returns c =
    let none : slice_get c.args.table.now c.loop-rule.index ≡ None = search rules in
    let many = no_rule_more c.args.table.now c.loop-rule.index none in
    record {
      ok = λ root own. subst (λ (l : Rules). HasPut root (inserts root c.args.group.now 0 (bare l)) c.args.node.now c.loop-rule.node)
          (take_all c.loop-rule.index c.args.table.now (omega (arith, many))) (c.loop-rule.invariant.put root own);
      why = λ root es own r b. tt;
    }
