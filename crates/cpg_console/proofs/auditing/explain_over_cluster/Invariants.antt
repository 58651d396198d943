use Rattle.cpg_world_laws.specs.Worlds.{new_world}
use Rattle.cpg_console.proofs.auditing.explain_over_cluster.Given as goal

abbrev pub ghosts-explain_on-B-BoardName : goal.ghosts-explain_on-B-BoardName
ghosts-explain_on-B-BoardName g a = record { cells = a.foundation.board.cells }

abbrev pub ghosts-explain_on-B-HistoryName : goal.ghosts-explain_on-B-HistoryName
ghosts-explain_on-B-HistoryName g a = record { table = a.foundation.board.table; start = new_world a.settings a.foundation.list }
