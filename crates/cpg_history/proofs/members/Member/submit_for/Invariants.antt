use Rattle.cpg_world_laws.specs.declared.events.WorldEvent.TheVariants.{Submit}
use Rattle.cpg_history.proofs.members.Member.submit_for.Given as goal

-- the event that is added
abbrev pub ghosts-submit_for_as : goal.ghosts-submit_for_as
ghosts-submit_for_as g a = record { event = Submit a.who.now.id.node a.who.now.id.conn a.call }
