use Rattle.cpg_world_laws.specs.Worlds.{new_world}
use Rattle.cpg_console.proofs.clustering.run_cluster.Given as goal

abbrev pub ghosts-run_on-B-BoardName : goal.ghosts-run_on-B-BoardName
ghosts-run_on-B-BoardName g a = record { cells = a.foundation.board.cells }

abbrev pub ghosts-run_on-B-HistoryName : goal.ghosts-run_on-B-HistoryName
ghosts-run_on-B-HistoryName g a = record { table = a.foundation.board.table; start = new_world a.settings a.foundation.list }
