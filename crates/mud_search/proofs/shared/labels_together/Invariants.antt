use Rattle.mud_search.proofs.shared.labels_together.Given as goal

abbrev pub ghosts-together_for : goal.ghosts-together_for
ghosts-together_for g a = record { world = a.world.now; travellers = a.travellers.now }
