use Rattle.std.proofs.Common.{◌≡◌, ◌<◌, ℕ}
use Rattle.mud_roads.specs.declared.label.Label.{Label}
use Rattle.mud_search.specs.declared.slot.Slot.TheVariants.{Held}
use Rattle.mud_search.specs.inner.Boards.{slot_at}
use Rattle.mud_search.proofs.board.Board.first_held.Given as goal

abbrev pub invariant-loop-room : goal.invariant-loop-room
invariant-loop-room l = (room : ℕ) (k : Label) → room < l.room → slot_at l.self-inside.slots.items room ≡ Held k → ⊥
