use Rattle.std.proofs.Common.{◌≡◌, ℕ, ◌+◌, ◌++◌, ◌∷◌, [], length, length-append, sym, ap, subst, ◌∙◌, append_assoc, arith}
use Rattle.std.specs.Vec.Iter.{into_iter_items}
use Rattle.cpg_step.specs.Running.{AreDone, Form, LeavesOf}
use Rattle.cpg_step.proofs.Doing.{done_more, stopped_after, as_many_done}
use Rattle.cpg_step.proofs.running.run_commands.Goals as goal

pub loop-command-preserved : goal.loop-command-preserved
loop-command-preserved g c =
    let form = g.P.PutsSteps.form c.args.puts.now in
    let one = subst (λ (f : Form). AreDone f c.loop-command.index c.loop-command.world (c.in-Some.command ∷ []) (g.W.Write.contents c.loop-command.writer) (g.W.Write.contents c.run_command.new.writer) c.run_command.new.world) c.loop-command.invariant.same c.in-Ok.ensures.ok in
    let at : c.loop-command.index ≡ 0 + length c.loop-command.yielded = omega (arith, c.loop-command.invariant.counted) in
    let next = subst (λ (n : ℕ). AreDone form n c.loop-command.world (c.in-Some.command ∷ []) (g.W.Write.contents c.loop-command.writer) (g.W.Write.contents c.run_command.new.writer) c.run_command.new.world) at one in
    record {
      counted = omega (arith, c.loop-command.invariant.counted, length-append c.loop-command.yielded (c.in-Some.command ∷ []));
      same = c.in-Ok.ensures.same ∙ c.loop-command.invariant.same;
      done = done_more form 0 _ _ _ c.loop-command.yielded (c.in-Some.command ∷ []) _ _ _ c.loop-command.invariant.done next;
      nodes = as_many_done _ _ _ _ _ _ _ c.in-Ok.ensures.ok ∙ c.loop-command.invariant.nodes;
      split = c.loop-command.invariant.split ∙ (ap (λ rest. c.loop-command.yielded ++ rest) c.in-Some.ensures.steps.0 ∙ sym (append_assoc c.loop-command.yielded (c.in-Some.command ∷ []) (into_iter_items c.next.new.self)));
    }

pub returns-in-Err-clause-err : goal.returns-in-Err-clause-err
returns-in-Err-clause-err g c =
    let form = g.P.PutsSteps.form c.args.puts.now in
    let left = subst (λ (f : Form). LeavesOf c.in-Err.refusal f c.loop-command.index c.loop-command.world c.in-Some.command (g.W.Write.contents c.loop-command.writer) (g.W.Write.contents c.run_command.new.writer) c.run_command.new.world) c.loop-command.invariant.same c.in-Err.ensures.err in
    let here = subst (λ (n : ℕ). LeavesOf c.in-Err.refusal form n c.loop-command.world c.in-Some.command (g.W.Write.contents c.loop-command.writer) (g.W.Write.contents c.run_command.new.writer) c.run_command.new.world) c.loop-command.invariant.counted left in
    stopped_after c.in-Err.refusal form _ _ _ c.loop-command.yielded c.in-Some.command (into_iter_items c.next.new.self) _ _ _ c.loop-command.invariant.done here c.args.commands.items
    (sym c.into_iter-command-iterator.ensures.into_iter_gives.0 ∙ (c.loop-command.invariant.split ∙ ap (λ rest. c.loop-command.yielded ++ rest) c.in-Some.ensures.steps.0))
