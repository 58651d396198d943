use Rattle.cpg_text.proofs.Plain.{run_put}
use Rattle.cpg_text.proofs.percent.push_run.Goals as goal

pub returns-clause-ok : goal.returns-clause-ok
returns-clause-ok c =
    run_put c.args.line.now.items _ c.args.message.now c.split_at.result.0.now c.split_at.result.1.now c.args.run c.in_ok-extend_from_slice.ensures.items c.split_at.ensures.front c.split_at.ensures.back c.requires.counted
