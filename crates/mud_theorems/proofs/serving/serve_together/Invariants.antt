use Rattle.mud_theorems.proofs.serving.serve_together.Given as goal

abbrev pub ghosts-serve_all : goal.ghosts-serve_all
ghosts-serve_all g a = record { table = a.cell.table.shared.table_id }
