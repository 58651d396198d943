use Rattle.std.proofs.Common.{◌∷◌, [], refl, subst}
use Rattle.std.proofs.lemmas.Result.{on_ok_weaker}
use Rattle.cpg_rules.specs.declared.rules.Rule.{Rule}
use Rattle.cpg_serve.specs.Renewing.{root_entry}
use Rattle.cpg_serve.specs.Carrying.{HasPut}
use Rattle.cpg_serve.proofs.Begun.{put_at}
use Rattle.cpg_serve.proofs.Refused.{put_by}
use Rattle.cpg_serve.proofs.renewing.insert_one.Goals as goal

pub returns : goal.returns
returns c = record {
  ok = on_ok_weaker c.enter.result
      (λ entered. λ root own. subst (λ (rule : Rule). HasPut root (root_entry root c.args.group.now c.args.index rule ∷ []) c.args.node.now c.enter.new.node) c.in_ok-rule.ensures.ok
      (put_at root c.args.conn c.args.group.now c.in_ok-group.group c.args.index _ c.in_ok-rule.rule c.args.node.now c.enter.new.node own c.in_ok-group.ensures.ok refl entered))
      c.enter.ensures.ok;
  why = λ root es own r b. put_by root c.args.conn c.args.group.now c.in_ok-group.group c.args.index c.in_ok-rule.rule c.args.node.now es c.enter.result own c.in_ok-group.ensures.ok r b c.enter.ensures.why;
}
