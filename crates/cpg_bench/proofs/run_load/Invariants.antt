use Rattle.cpg_world_laws.specs.Worlds.{new_world}
use Rattle.cpg_bench.proofs.run_load.Given as goal

abbrev pub ghosts-run-B-BoardName : goal.ghosts-run-B-BoardName
ghosts-run-B-BoardName g a = record { cells = a.board.cells }

abbrev pub ghosts-run-B-HistoryName : goal.ghosts-run-B-HistoryName
ghosts-run-B-HistoryName g a = record { table = a.board.table; start = new_world a.settings a.list.now }
