-- Texts with names and lists of objects, as bytes.
use Rattle.std.specs.Prelude.{ℕ, List, [], ◌∷◌, ◌++◌, get_or, codes, decimal}
use Rattle.std.specs.Option.{option_map_or}
use Rattle.std.specs.List.{join_by}
use Rattle.mud_world.specs.State.{State, record_at}

-- the shown name: the first one
abbrev pub first_name : State → ℕ → List ℕ
first_name w n = option_map_or (λ r. get_or r.names 0 []) (record_at w n) []

-- NAME #n
abbrev pub entry_text : State → ℕ → List ℕ
entry_text w n = first_name w n ++ codes " #" ++ decimal n

-- NAME #n, NAME #m and so on
abbrev pub object_list : State → List ℕ → List ℕ
object_list w ns = join_by (entry_text w) (codes ", ") ns

-- a further line, if there is something to list
abbrev pub listed_under : State → List ℕ → List ℕ → List ℕ
listed_under w heading [] = []
listed_under w heading (n ∷ ns) = codes "\n  " ++ heading ++ object_list w (n ∷ ns)
