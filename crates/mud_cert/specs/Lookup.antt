-- Labels by room.
use Rattle.std.specs.Prelude.{ℕ, nat_eq, find, Option, option_map}
use Rattle.mud_roads.specs.declared.label.Label.{Label}
use Rattle.mud_cert.specs.Certificate.{Account}

-- the member's label of the room, or none
abbrev pub label_at : Account → ℕ → Option Label
label_at m room = option_map (λ e. e.1) (find (λ e. nat_eq e.0 room) m.labels)
