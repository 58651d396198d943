use Rattle.cpg_rows.proofs.parts.play_at_board.Given as goal

abbrev pub ghosts-play_board : goal.ghosts-play_board
ghosts-play_board a = record { cells = a.board.cells }

abbrev pub ghosts-play_crew : goal.ghosts-play_crew
ghosts-play_crew a = record { cells = a.board.cells }
