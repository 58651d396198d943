use Rattle.cpg_world_laws.specs.Worlds.{new_world}
use Rattle.cpg_tests.proofs.playing.plays.Given as goal

abbrev pub ghosts-played_on-B-BoardName : goal.ghosts-played_on-B-BoardName
ghosts-played_on-B-BoardName g a = record { cells = a.ground.board.cells }

abbrev pub ghosts-played_on-B-HistoryName : goal.ghosts-played_on-B-HistoryName
ghosts-played_on-B-HistoryName g a = record { table = a.ground.board.table; start = new_world a.ground.settings a.ground.list }
