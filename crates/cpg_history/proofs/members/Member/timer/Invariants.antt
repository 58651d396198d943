use Rattle.cpg_world_laws.specs.declared.events.WorldEvent.TheVariants.{Timer}
use Rattle.cpg_history.proofs.members.Member.timer.Given as goal

-- the event that is added
abbrev pub ghosts-timer_as : goal.ghosts-timer_as
ghosts-timer_as g a = record { event = Timer a.self.now.id }
