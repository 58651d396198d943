use Rattle.std.proofs.Common.{subst}
use Rattle.cpg_world_laws.specs.Claims.{IsTrueWorld}
use Rattle.cpg_world.proofs.worlds.World.sent.Goals as goal

pub returns-clause-claims : goal.returns-clause-claims
returns-clause-claims c = subst IsTrueWorld c.self.view_is (c.every_run.ensures.world _ c.self.invariant.settings c.self.invariant.reached)
