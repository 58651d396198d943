use Rattle.cpg_step.proofs.Doing.{step_done, step_happened, where_ok}
use Rattle.cpg_step.proofs.acting.act.Goals as goal

pub returns-clause-ok : goal.returns-clause-ok
returns-clause-ok g c =
    step_done (g.P.PutsSteps.form c.args.puts.now) c.args.index c.args.world.now c.args.event c.step-answer.result c.is_memory.result c.step-answer.new.self c.put_answer.result _ _ c.step-answer.ensures.step c.is_memory.ensures c.if-is_memory.false c.requires.none
    (where_ok c.put_answer.result (λ said. said c.args.index c.args.world.now c.args.event c.requires.met) c.put_answer.ensures.ok)

pub returns-clause-err : goal.returns-clause-err
returns-clause-err g c =
    step_happened c.args.world.now c.args.event c.step-answer.result c.is_memory.result c.step-answer.new.self c.step-answer.ensures.step c.is_memory.ensures c.if-is_memory.false c.put_answer.result
