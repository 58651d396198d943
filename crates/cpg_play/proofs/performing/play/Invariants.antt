use Rattle.cpg_world_laws.specs.Worlds.{new_world}
use Rattle.cpg_play.proofs.performing.play.Given as goal

abbrev pub ghosts-play_on-B-BoardName : goal.ghosts-play_on-B-BoardName
ghosts-play_on-B-BoardName g a = record { cells = a.foundation.board.cells }

abbrev pub ghosts-play_on-B-HistoryName : goal.ghosts-play_on-B-HistoryName
ghosts-play_on-B-HistoryName g a = record { table = a.foundation.board.table; start = new_world a.settings a.foundation.list }
