use Rattle.cpg_world_laws.specs.declared.events.WorldEvent.TheVariants.{Disconnect}
use Rattle.cpg_history.proofs.members.Member.close_for.Given as goal

-- the event that is added
abbrev pub ghosts-close_for_as : goal.ghosts-close_for_as
ghosts-close_for_as g a = record { event = Disconnect a.who.now.id.node a.who.now.id.conn }
