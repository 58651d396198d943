use Rattle.std.proofs.Common.{◌<◌, ◌≤◌, ◌+◌, length, drop, sym, ap, subst, ◌∙◌, arith}
use Rattle.cpg_draw.specs.declared.excerpts.Spot.{Spot}
use Rattle.cpg_draw.specs.Steps.{AreRows}
use Rattle.cpg_draw.proofs.Drawn.{step_rows, last_rows}
use Rattle.cpg_draw.proofs.pictures.draw_rows.Goals as goal

pub loop-command-preserved : goal.loop-command-preserved
loop-command-preserved c =
    let i = c.loop-command.command-index in
    let within : i < length c.args.commands.now = omega arith in
    let placed = c.after-next.ensures.value in
    record {
      counted = ap (λ (s : Spot). s.row) placed ∙ ap (λ n. n + 1) c.loop-command.invariant.counted;
      some = c.after-next.ensures.line;
      few = c.after-next.ensures.order;
      drawn = λ last world whole rest. step_rows c.args.excerpt c.args.commands.now i c.command-item.result c.loop-command.next c.in_ok-here.here c.loop-command.arrows.items c.draw_command.new.arrows.items c.args.arrows.now.items c.loop-command.world c.draw_command.new.world c.args.world.now c.loop-command.rows.items c.draw_command.new.rows.items c.args.rows.now.items within (sym c.command-item.is) c.loop-command.invariant.drawn c.in_ok-here.ensures.ok
          last world whole (subst (λ n. AreRows c.args.excerpt n c.draw_command.new.arrows.items c.draw_command.new.world (drop (i + 1) c.args.commands.now) c.draw_command.new.rows.items last world whole) placed rest);
      nodes = c.in_ok-here.ensures.nodes ∙ c.loop-command.invariant.nodes;
    }

pub returns-clause-ok : goal.returns-clause-ok
returns-clause-ok c =
    let i = c.loop-command.command-index in
    let all : length c.args.commands.now ≤ i = omega arith in
    last_rows c.args.excerpt c.args.commands.now i c.loop-command.next c.loop-command.arrows.items c.args.arrows.now.items c.loop-command.world c.args.world.now c.loop-command.rows.items c.args.rows.now.items all c.loop-command.invariant.drawn
