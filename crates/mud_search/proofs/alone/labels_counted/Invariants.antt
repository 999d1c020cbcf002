use Rattle.mud_search.proofs.alone.labels_counted.Given as goal

abbrev pub ghosts-counted_for : goal.ghosts-counted_for
ghosts-counted_for g a = record { world = a.world.now; travellers = a.travellers.now }
