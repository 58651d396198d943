use Rattle.cpg_world_laws.specs.Worlds.{new_world}
use Rattle.cpg_console.proofs.shelling.run_shell.Given as goal

abbrev pub ghosts-shell_on-B-BoardName : goal.ghosts-shell_on-B-BoardName
ghosts-shell_on-B-BoardName g a = record { cells = a.foundation.board.cells }

abbrev pub ghosts-shell_on-B-HistoryName : goal.ghosts-shell_on-B-HistoryName
ghosts-shell_on-B-HistoryName g a = record { table = a.foundation.board.table; start = new_world a.settings a.foundation.list }
