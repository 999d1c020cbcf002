use Rattle.mud_tests.proofs.hall.check_crowd.Given as goal

abbrev pub ghosts-check_crowd_in : goal.ghosts-check_crowd_in
ghosts-check_crowd_in g a = record { cells = a.hall.cells; loaded = a.hall.loaded }
