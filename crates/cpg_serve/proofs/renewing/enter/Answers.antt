use Rattle.cpg_serve.proofs.Begun.{entered}
use Rattle.cpg_serve.proofs.Refused.{enter_why, on_ok_both, submit_why}
use Rattle.cpg_serve.proofs.renewing.enter.Goals as goal

pub returns : goal.returns
returns c = record {
  ok = on_ok_both c.turn_until_still.result
      (λ still brisk. entered c.args.node.now c.submit.new.self c.turn_until_still.new.node c.args.conn c.args.call c.in_default.ensures.answer.0 c.in_default.ensures.answer.1 c.turn_until_still.ensures.did still brisk)
      c.turn_until_still.ensures.still c.turn_until_still.ensures.brisk;
  why = λ es d there b. enter_why c.args.node.now c.submit.new.self c.turn_until_still.new.node c.args.conn c.args.call es d c.turn_until_still.result c.in_default.ensures.answer.1 c.turn_until_still.ensures.did there b
      c.turn_until_still.ensures.why;
}
