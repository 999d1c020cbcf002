use Rattle.mud_tests.proofs.playing.players_at_once.Given as goal

abbrev pub ghosts-check_players : goal.ghosts-check_players
ghosts-check_players a b = record { cells = b.hall.cells; loaded = b.hall.loaded }
