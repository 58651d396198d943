use Rattle.std.proofs.Common.{subst, take, length}
use Rattle.cpg_ring.specs.States.{IsSettings}
use Rattle.cpg_world_laws.specs.Worlds.{WorldValue, Reached}
use Rattle.cpg_world.proofs.Running.{true_after}
use Rattle.cpg_world.proofs.worlds.World.run.Goals as goal

pub returns-clause-world : goal.returns-clause-world
returns-clause-world c = true_after c.every_run.ensures.world c.args.self.now c.run_into-ended.new.self (take (length c.run_into-ended.new.replies.items) c.args.events.now) (subst (λ (w : WorldValue). IsSettings w.settings) c.self.view_is c.self.invariant.settings) (subst Reached c.self.view_is c.self.invariant.reached) c.run_into-ended.ensures.world
