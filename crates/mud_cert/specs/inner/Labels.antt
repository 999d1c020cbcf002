-- Sorted labels, and look-up in them.
use Rattle.std.specs.Prelude.{ℕ, ◌<◌, nat_eq, List, AllPairs, find, Option, option_map}
use Rattle.mud_roads.specs.declared.label.Label.{Label}

-- the rooms are strictly increasing; only private clauses cite this
abbrev pub Rises : List (ℕ × Label) → Type 0
Rises labels = AllPairs (λ (d : ℕ × Label) (e : ℕ × Label). d.0 < e.0) labels

-- the label of the room, or none; only private clauses cite this
abbrev pub label_in : List (ℕ × Label) → ℕ → Option Label
label_in labels room = option_map (λ e. e.1) (find (λ e. nat_eq e.0 room) labels)
