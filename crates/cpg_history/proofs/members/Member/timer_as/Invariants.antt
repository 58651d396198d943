use Rattle.std.specs.Prelude.{suc, length}
use Rattle.cpg_world_laws.specs.Worlds.{runs}
use Rattle.cpg_history.specs.Members.{before_last}
use Rattle.cpg_history.proofs.members.Member.timer_as.Given as goal

-- the number of the first frame that the last event sent
abbrev pub ghosts-front : goal.ghosts-front
ghosts-front g a = record { number = suc (length (runs g.B.HistoryName.start (before_last a.pen.now.seen)).sent) }
