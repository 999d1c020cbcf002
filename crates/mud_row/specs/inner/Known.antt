-- The knowledge of the first cells.
use Rattle.std.specs.Prelude.{ℕ, zero, suc, List, [], ◌∷◌, Option, Some, None}
use Rattle.once_cell.specs.declared.race.note.Note.{Note}
use Rattle.mud_chron.specs.Entry.{Entry}

-- the names of the cells of these notes
abbrev pub names_of : List (Note Entry) → List ℕ
names_of [] = []
names_of (n ∷ ns) = n.cell ∷ names_of ns

-- the entries, preceded by this one if there is one
abbrev pub entry_first : Option Entry → List Entry → List Entry
entry_first None es = []
entry_first (Some e) es = e ∷ es

-- the entries of the first n notes, up to one that knows none
abbrev pub known_front : ℕ → List (Note Entry) → List Entry
known_front zero ns = []
known_front (suc k) [] = []
known_front (suc k) (n ∷ ns) = entry_first n.known (known_front k ns)
