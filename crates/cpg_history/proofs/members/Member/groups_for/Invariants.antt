use Rattle.cpg_world_laws.specs.declared.events.WorldEvent.TheVariants.{Groups}
use Rattle.cpg_history.proofs.members.Member.groups_for.Given as goal

-- the event that is added
abbrev pub ghosts-groups_for_as : goal.ghosts-groups_for_as
ghosts-groups_for_as g a = record { event = Groups a.who.now.id.node a.who.now.id.conn }
