use Rattle.mud_search.proofs.alone.labels_alone.Given as goal

abbrev pub ghosts-labels_uncounted : goal.ghosts-labels_uncounted
ghosts-labels_uncounted a = record { name = a.blank.name; parts = a.blank.parts }
