use Rattle.cpg_world_laws.specs.declared.events.WorldEvent.TheVariants.{Take}
use Rattle.cpg_history.proofs.members.Member.take_for.Given as goal

-- the event that is added
abbrev pub ghosts-take_for_as : goal.ghosts-take_for_as
ghosts-take_for_as g a = record { event = Take a.who.now.id.node a.who.now.id.conn }
