use Rattle.std.proofs.Common.{◌<◌, length, sym, arith}
use Rattle.cpg_cluster.proofs.Doing.{done_next, stopped_at}
use Rattle.cpg_cluster.proofs.running.run_commands.Goals as goal

pub returns-in-Err-clause-err : goal.returns-in-Err-clause-err
returns-in-Err-clause-err g c =
    let within : c.loop-line.line-index < length c.args.lines.now = omega arith in
    stopped_at _ _ _ _ _ _ _ _ c.line-item.result _ _ _ within (sym c.line-item.is) c.loop-line.invariant.done c.in-Err.ensures.err

pub loop-line-preserved : goal.loop-line-preserved
loop-line-preserved g c =
    let within : c.loop-line.line-index < length c.args.lines.now = omega arith in
    record {
      done = done_next _ _ _ _ _ _ _ c.line-item.result _ _ _ within (sym c.line-item.is) c.loop-line.invariant.done c.in-Ok.ensures.ok;
      within = c.run_command.ensures.within;
    }
