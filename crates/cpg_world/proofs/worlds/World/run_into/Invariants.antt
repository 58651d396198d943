use Rattle.std.proofs.Common.{◌≡◌, length}
use Rattle.cpg_world.specs.Runs.{HaveRun}
use Rattle.cpg_world.proofs.worlds.World.run_into.Given as goal

abbrev pub invariant-loop-event : goal.invariant-loop-event
invariant-loop-event l = record {
  ran : HaveRun l.initial.self l.events l.replies.items l.self;
  count : length l.replies.items ≡ l.event-index;
  nodes : length l.self.nodes ≡ length l.initial.self.nodes;
}
