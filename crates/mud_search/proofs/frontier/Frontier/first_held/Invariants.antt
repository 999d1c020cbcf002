use Rattle.std.proofs.Common.{◌≡◌, ◌<◌, ℕ}
use Rattle.mud_roads.specs.declared.label.Label.{Label}
use Rattle.mud_search.specs.declared.slot.Slot.TheVariants.{Held}
use Rattle.mud_search.specs.inner.Boards.{slot_of}
use Rattle.mud_search.proofs.frontier.Frontier.first_held.Given as goal

abbrev pub invariant-loop-member : goal.invariant-loop-member
invariant-loop-member g l =
    (m room : ℕ) (k : Label) → m < l.member → slot_of l.self-inside.boards.items m room ≡ Held k → ⊥
