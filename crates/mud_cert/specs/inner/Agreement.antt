-- The greatest of the costs that members claim for a room, as the tests compute it.
use Rattle.std.specs.Prelude.{ℕ, max, List, [], ◌∷◌, Option, None, Some}
use Rattle.mud_roads.specs.declared.label.Label.{Label}
use Rattle.mud_cert.specs.Certificate.{Account}
use Rattle.mud_cert.specs.Lookup.{label_at}

-- f of the label, if there is one
abbrev pub with_label : Option Label → (Label → Option ℕ) → Option ℕ
with_label None f = None
with_label (Some l) f = f l

-- the greatest of this cost and of the members' labels of the room, if all have one
abbrev pub greatest_from : ℕ → List Account → ℕ → Option ℕ
greatest_from cost [] room = Some cost
greatest_from cost (m ∷ ms) room = with_label (label_at m room) (λ l. greatest_from (max cost l.cost) ms room)

-- the greatest cost of the members' labels of the room, if all have one
abbrev pub greatest_cost : List Account → ℕ → Option ℕ
greatest_cost ms room = greatest_from 0 ms room
