use Rattle.cpg_world_laws.specs.declared.events.WorldEvent.TheVariants.{List}
use Rattle.cpg_history.proofs.members.Member.list_for.Given as goal

-- the event that is added
abbrev pub ghosts-list_for_as : goal.ghosts-list_for_as
ghosts-list_for_as g a = record { event = List a.who.now.id.node a.who.now.id.conn a.group.now }
