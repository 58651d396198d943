use Rattle.cpg_tests.proofs.shelves.a_station_lays_down_what_it_delivered.Given as goal

abbrev pub ghosts-lays_down : goal.ghosts-lays_down
ghosts-lays_down g a = record { cells = a.board.now.cells }
