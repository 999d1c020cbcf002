-- A row of the table of verbs in the code.
use Rattle.std.specs.Prelude.{ℕ, List}
use Rattle.std.specs.Borrow.{Bor}
use Rattle.mud_rules.specs.declared.verb.Verb.{Verb}

-- a row of the code's table of verbs
abbrev pub row_of : Bor (List ℕ) × Verb → List ℕ × Verb
row_of row = (row.0.now, row.1)
