use Rattle.std.proofs.Common.{length, sym, ap, ◌∙◌}
use Rattle.cpg_world_laws.specs.Worlds.{WorldValue}
use Rattle.cpg_world.proofs.Running.{as_many_as_set}
use Rattle.cpg_world.proofs.worlds.World.nodes.Goals as goal

pub returns-clause-count : goal.returns-clause-count
returns-clause-count c = sym (as_many_as_set _ c.self.invariant.reached) ∙ ap (λ (w : WorldValue). length w.nodes) c.self.view_is
