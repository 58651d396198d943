use Rattle.cpg_serve.proofs.Begun.{parted}
use Rattle.cpg_serve.proofs.Refused.{closed_why, on_ok_both, part_why}
use Rattle.std.proofs.Common.{◌≡◌, rules, suc, length}
use Rattle.cpg_node.specs.Calls.{disconnected}
use Rattle.cpg_serve.proofs.renewing.part.Goals as goal

pub returns-in_err-disconnect-clause-why : goal.returns-in_err-disconnect-clause-why
returns-in_err-disconnect-clause-why c = λ es d there b.
    let why = closed_why c.args.node.now c.args.conn (λ u. c.disconnect.new.self ≡ disconnected c.args.node.now c.args.conn) c.in_err-disconnect.field-0.0 d c.args.node.now.ring.settings (suc (length es)) c.in_err-disconnect.ensures.answer there in
    search rules

pub returns : goal.returns
returns c = record {
  ok = on_ok_both c.turn_until_still.result
      (λ still brisk. parted c.args.node.now c.disconnect.new.self c.turn_until_still.new.node c.args.conn c.in_ok-disconnect.ensures.answer.1 c.turn_until_still.ensures.did still brisk)
      c.turn_until_still.ensures.still c.turn_until_still.ensures.brisk;
  why = λ es d there b. part_why c.args.node.now c.disconnect.new.self c.turn_until_still.new.node c.args.conn es d c.turn_until_still.result c.in_ok-disconnect.ensures.answer.1 c.turn_until_still.ensures.did there b
      c.turn_until_still.ensures.why;
}
