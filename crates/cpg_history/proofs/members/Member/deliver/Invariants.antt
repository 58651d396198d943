use Rattle.cpg_world_laws.specs.declared.events.WorldEvent.TheVariants.{Deliver}
use Rattle.cpg_history.proofs.members.Member.deliver.Given as goal

-- the event that is added
abbrev pub ghosts-deliver_as : goal.ghosts-deliver_as
ghosts-deliver_as g a = record { event = Deliver a.self.now.id }
