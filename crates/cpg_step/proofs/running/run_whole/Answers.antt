use Rattle.std.proofs.Common.{ℕ, length, sym, ap, ◌∙◌, arith}
use Rattle.cpg_text.specs.declared.streams.TheConstants.{MOST_BYTES}
use Rattle.cpg_step.specs.Scripts.{commands_of_script}
use Rattle.cpg_step.proofs.Whole.{run_left, run_whole}
use Rattle.cpg_step.proofs.running.run_whole.Goals as goal

pub returns-clause-ok : goal.returns-clause-ok
returns-clause-ok g c =
    let text = c.in_ok-script.script.items in
    run_whole (g.F.TellsSteps.form c.args.form.now) c.run_read.result (g.R.Read.remaining c.args.reader.now) text c.in_ok-commands.commands.items c.args.world.now.settings.nodes MOST_BYTES
    c.args.world.now c.run_read.new.world (g.W.Write.contents c.args.writer.now) (g.W.Write.contents c.run_read.new.writer) c.in_ok-script.ensures.whole
    (omega (arith, c.in_ok-script.ensures.short, c.as_slice.ensures.len, ap length c.as_slice.ensures.value))
    (ap (λ (n : ℕ). commands_of_script n text) (sym c.nodes.ensures.settings) ∙ (ap (commands_of_script c.nodes.result) (sym c.as_slice.ensures.value) ∙ c.in_ok-commands.ensures.ok))
    c.run_read.ensures.ok

pub returns-clause-err : goal.returns-clause-err
returns-clause-err g c =
    let text = c.in_ok-script.script.items in
    run_left (g.F.TellsSteps.form c.args.form.now) c.run_read.result (g.R.Read.remaining c.args.reader.now) text c.in_ok-commands.commands.items c.args.world.now.settings.nodes
    c.args.world.now c.run_read.new.world (g.W.Write.contents c.args.writer.now) (g.W.Write.contents c.run_read.new.writer) c.in_ok-script.ensures.whole
    (ap (λ (n : ℕ). commands_of_script n text) (sym c.nodes.ensures.settings) ∙ (ap (commands_of_script c.nodes.result) (sym c.as_slice.ensures.value) ∙ c.in_ok-commands.ensures.ok))
    c.run_read.ensures.err
