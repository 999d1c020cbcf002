-- The lists of a table.
use Rattle.std.specs.Prelude.{List}
use Rattle.mud_search.specs.Tables.{Table}

-- the lists in memory
abbrev pub lists_in : {A : Type 0} → Table A → List (List A)
lists_in t = t.lists
