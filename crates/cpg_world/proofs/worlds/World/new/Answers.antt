use Rattle.std.proofs.Common.{ap, ◌∙◌, rules}
use Rattle.cpg_ring.specs.States.{IsSettings}
use Rattle.cpg_world_laws.specs.Worlds.{new_world}
use Rattle.cpg_world.proofs.Beginning.{begun}
use Rattle.cpg_world.proofs.worlds.World.new.Goals as goal

pub invariant_of-result : goal.invariant_of-result
invariant_of-result c =
    let settings : IsSettings c.args.settings = search rules in
    (begun c.reads_what_is_spelled.ensures.again c.args.settings c.in_ok-list.list c.in_ok-nodes.nodes.items c.in_ok-sent.sent.items settings c.in_ok-nodes.ensures.ok c.in_ok-sent.ensures.ok c.in_ok-sent.ensures.range).kept

pub returns-clause-made : goal.returns-clause-made
returns-clause-made c =
    let settings : IsSettings c.args.settings = search rules in
    (settings, (begun c.reads_what_is_spelled.ensures.again c.args.settings c.in_ok-list.list c.in_ok-nodes.nodes.items c.in_ok-sent.sent.items settings c.in_ok-nodes.ensures.ok c.in_ok-sent.ensures.ok c.in_ok-sent.ensures.range).is ∙ ap (new_world c.args.settings) c.in_ok-list.ensures.ok)

pub returns-clause-world : goal.returns-clause-world
returns-clause-world c =
    let kept = invariant_of-result c in
    c.every_run.ensures.world _ kept.settings kept.reached
