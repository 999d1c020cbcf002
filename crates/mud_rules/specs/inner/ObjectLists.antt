-- A list and the text before it.
use Rattle.std.specs.Prelude.{ℕ, List, [], ◌∷◌, ◌++◌}
use Rattle.mud_world.specs.State.{State}
use Rattle.mud_rules.specs.ObjectLists.{object_list}

-- a list after a heading, if there is something to list
abbrev pub listed_after : List ℕ → State → List ℕ → List ℕ
listed_after lead w [] = []
listed_after lead w (n ∷ ns) = lead ++ object_list w (n ∷ ns)
