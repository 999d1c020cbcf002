use Rattle.mud_server_accept.proofs.volume.serve_volume.Given as goal

abbrev pub ghosts-serve_one : goal.ghosts-serve_one
ghosts-serve_one g a = record { cells = a.beginning.hall.cells; loaded = a.beginning.hall.loaded }
