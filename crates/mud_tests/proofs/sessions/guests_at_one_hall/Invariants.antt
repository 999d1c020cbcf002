use Rattle.mud_tests.proofs.sessions.guests_at_one_hall.Given as goal

abbrev pub ghosts-play : goal.ghosts-play
ghosts-play a b = record { cells = b.hall.cells; loaded = b.hall.loaded }
