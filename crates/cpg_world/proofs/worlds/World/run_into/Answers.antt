use Rattle.std.proofs.Common.{◌∙◌}
use Rattle.cpg_world.proofs.Running.{OneMore, one_more}
use Rattle.cpg_world.proofs.worlds.World.run_into.Goals as goal

pub loop-event-preserved : goal.loop-event-preserved
loop-event-preserved c =
    let m : OneMore c.args.self.now c.args.events.now c.step_into.new.replies.items c.loop-event.self c.step_into.new.self c.loop-event.event-index
    = one_more c.args.self.now c.args.events.now c.loop-event.replies.items c.step_into.new.replies.items c.loop-event.self c.step_into.new.self c.event-item.result c.loop-event.event-index c.loop-event-test.true c.event-item.is c.loop-event.invariant.ran c.loop-event.invariant.count c.in_ok-step_into.ensures.ok in
    record { ran = m.ran; count = m.count; nodes = m.nodes ∙ c.loop-event.invariant.nodes }
