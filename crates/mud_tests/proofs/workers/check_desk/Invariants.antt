use Rattle.mud_tests.proofs.workers.check_desk.Given as goal

abbrev pub ghosts-asked_in : goal.ghosts-asked_in
ghosts-asked_in g a = record { cells = a.hall.cells; loaded = a.hall.loaded }
