use Rattle.std.proofs.Common.{◌++◌, ◌∙◌, ap, slice_index}
use Rattle.std.specs.List.{concat}
use Rattle.cpg_step.specs.Lines.{look_lines}
use Rattle.cpg_step.specs.Targets.{look_target}
use Rattle.cpg_console.specs.Echoing.{echo_of}
use Rattle.cpg_console.proofs.EchoedWorlds.{look_echoed}
use Rattle.cpg_console.proofs.echoing.EchoedLinesPutsSteps.put_look.Goals as goal

pub returns-clause-ok : goal.returns-clause-ok
returns-clause-ok c =
    let text = concat (look_lines c.args.world.now c.args.look.now) in
    look_echoed c.put_echoed.result (λ index. echo_of (slice_index c.args.self.now.numbers.items index) (look_target c.args.look.now)) c.args.lines.now.items c.put_echoed.new.text.items
    c.as_slice.result.now c.as_slice-2.result.now c.args.self.now.echo.items text c.as_slice.ensures.value
    (c.as_slice-2.ensures.value ∙ c.in_ok-put_look.ensures.ok ∙ ap (λ l. l ++ text) c.new-plain.ensures.items) c.put_echoed.ensures.ok
