use Rattle.mud_tests.proofs.sessions.each_line_is_told_once.Given as goal

abbrev pub ghosts-is_told_once_in : goal.ghosts-is_told_once_in
ghosts-is_told_once_in a b = record { cells = b.hall.cells; loaded = b.hall.loaded }
