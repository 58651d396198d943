use Rattle.std.proofs.Common.{arith, List}
use Rattle.cpg_serve.specs.declared.deeds.Outcome.{Outcome}
use Rattle.cpg_serve.proofs.Doing.{next_done}
use Rattle.cpg_serve.proofs.served.Served.does_all.Goals as goal

pub loop-deed-preserved : goal.loop-deed-preserved
loop-deed-preserved c =
    let before : List Outcome = c.loop-deed.outcomes.items in
    record {
      done = rw c.push_reserved.ensures.items
          (next_done c.args.self.now c.loop-deed.self c.does.new.self c.args.deeds.now c.loop-deed.deed-index c.deed-item.result before c.does.result c.loop-deed-test.true c.deed-item.is c.loop-deed.invariant.done
          c.does.ensures.goes c.does.ensures.right);
      room = omega arith;
    }
