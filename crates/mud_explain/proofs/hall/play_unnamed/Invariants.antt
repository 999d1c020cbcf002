use Rattle.mud_explain.proofs.hall.play_unnamed.Given as goal

abbrev pub ghosts-told_in : goal.ghosts-told_in
ghosts-told_in g a = record { cells = a.hall.cells; loaded = a.hall.loaded }
