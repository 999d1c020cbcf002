use Rattle.mud_tests.proofs.served.serve_on.Given as goal

abbrev pub ghosts-serve : goal.ghosts-serve
ghosts-serve g a = record { cells = a.hall.cells; loaded = a.hall.loaded }
