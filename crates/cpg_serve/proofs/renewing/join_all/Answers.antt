use Rattle.std.proofs.Common.{rules}
use Rattle.cpg_serve.proofs.Begun.{joined_more}
use Rattle.cpg_serve.proofs.Refused.{joins_why}
use Rattle.cpg_serve.proofs.renewing.join_all.Goals as goal

pub loop-one-preserved : goal.loop-one-preserved
loop-one-preserved c = record {
  joined = joined_more c.args.numbers.now c.args.all.now c.loop-one.one-index c.one-item.result c.args.node.now c.loop-one.node c.join_one.new.node c.loop-one-test.true c.one-item.is
      c.loop-one.invariant.joined c.in_ok-join_one.ensures.ok;
}

pub returns-in_err-join_one-clause-why : goal.returns-in_err-join_one-clause-why
returns-in_err-join_one-clause-why c = λ es b.
    let why = joins_why c.args.numbers.now c.args.all.now c.loop-one.one-index c.one-item.result c.args.node.now c.loop-one.node es _ c.loop-one-test.true c.one-item.is c.loop-one.invariant.joined c.in_err-join_one.ensures.why b in
    search rules
