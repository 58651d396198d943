use Rattle.cpg_world_laws.specs.declared.events.WorldEvent.TheVariants.{Connect}
use Rattle.cpg_history.proofs.members.Member.admit.Given as goal

-- the event that is added
abbrev pub ghosts-admit_as : goal.ghosts-admit_as
ghosts-admit_as g a = record { event = Connect a.node a.pid a.cred }
