use Rattle.std.proofs.Common.{refl, inr}
use Rattle.mud_check.proofs.Telling.{cut-text, cut-end}
use Rattle.mud_check.proofs.writing.write_outcome.Goals as goal
use Rattle.mud_check.proofs.writing.write_outcome.Goals.{else-write_all-via-then-write_all+else-write_all-2}
use Rattle.mud_check.proofs.writing.write_outcome.Goals.{else-write_all-via-else-write_all}

pub returns-else-write_all : goal.returns-else-write_all
returns-else-write_all g c = elim c.else-write_all.branch [
  | else-write_all-via-then-write_all+else-write_all-2 w ↦ rw w.sink-is (inr (
    refl,
    w.write_all-then-write_all.ensures.failed w.if-write_all-2.false,
    cut-end _ _ _ c.args.text.now w.write_all-then-write_all.ensures.front.0
        (rw c.as_bytes.ensures.value at c.write_all.ensures.whole w.if-write_all.true)
        w.write_all-then-write_all.ensures.front.1,
  ))
  | else-write_all-via-else-write_all w ↦ rw w.sink-is (inr (
    refl,
    c.write_all.ensures.failed w.if-write_all.false,
    cut-text _ _ c.args.text.now c.write_all.ensures.front.0
        (rw c.as_bytes.ensures.value at c.write_all.ensures.front.1),
  ))
]
