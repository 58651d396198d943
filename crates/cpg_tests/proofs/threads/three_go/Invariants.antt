use Rattle.cpg_world_laws.specs.Worlds.{new_world}
use Rattle.cpg_tests.proofs.threads.three_go.Given as goal

abbrev pub ghosts-three_on-B-BoardName : goal.ghosts-three_on-B-BoardName
ghosts-three_on-B-BoardName g a = record { cells = a.board.cells }

abbrev pub ghosts-three_on-B-HistoryName : goal.ghosts-three_on-B-HistoryName
ghosts-three_on-B-HistoryName g a = record { table = a.board.table; start = new_world a.settings a.list.now }
