use Rattle.std.proofs.Common.{◌<◌, length, sym, ◌∙◌, arith}
use Rattle.cpg_why.proofs.Done.{as_many_one, done_next}
use Rattle.cpg_why.proofs.steps.running.run_all.Goals as goal

pub loop-command-preserved : goal.loop-command-preserved
loop-command-preserved c =
    let i = c.loop-command.command-index in
    let within : i < length c.args.commands.now = omega arith in
    record {
      done = done_next c.args.world.now c.loop-command.world c.run_one.new.world c.args.commands.now i c.command-item.result within (sym c.command-item.is) c.loop-command.invariant.done c.in-Ok.ensures.ok;
      nodes = as_many_one c.loop-command.world c.run_one.new.world c.command-item.result c.in-Ok.ensures.ok ∙ c.loop-command.invariant.nodes;
    }
