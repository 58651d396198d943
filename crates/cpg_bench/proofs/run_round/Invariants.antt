use Rattle.cpg_world_laws.specs.Worlds.{new_world}
use Rattle.cpg_bench.proofs.run_round.Given as goal

abbrev pub ghosts-go-B-BoardName : goal.ghosts-go-B-BoardName
ghosts-go-B-BoardName g a = record { cells = a.board.cells }

abbrev pub ghosts-go-B-HistoryName : goal.ghosts-go-B-HistoryName
ghosts-go-B-HistoryName g a = record { table = a.board.table; start = new_world a.settings a.list.now }
