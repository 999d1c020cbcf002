use Rattle.mud_search.specs.inner.Boards.{label_at}
use Rattle.mud_search.specs.Least.{AreLabelsBelow}
use Rattle.mud_search.proofs.board.Board.labels_below.Given as goal

abbrev pub invariant-loop-room : goal.invariant-loop-room
invariant-loop-room l = AreLabelsBelow (label_at l.slots) l.room l.found.items
