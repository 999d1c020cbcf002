use Rattle.mud_server_accept.proofs.listen.serve.Given as goal

abbrev pub ghosts-serve_all : goal.ghosts-serve_all
ghosts-serve_all g a = record { cells = a.hall.cells; loaded = a.hall.loaded }
