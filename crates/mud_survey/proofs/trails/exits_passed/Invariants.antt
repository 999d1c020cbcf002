use Rattle.std.proofs.Common.{◌≡◌, ℕ, ◌<◌, length}
use Rattle.std.specs.Prelude.{IsTrue, ◌↔◌}
use Rattle.mud_survey.specs.Ways.{Passes}
use Rattle.mud_survey.specs.inner.Marks.{mark_at}
use Rattle.mud_survey.proofs.trails.exits_passed.Given as goal

-- the exits of the numbers so far that the player passes are marked
abbrev pub invariant-loop-exit : goal.invariant-loop-exit
invariant-loop-exit l = record {
  so : (n : ℕ) → n < l.exit → IsTrue (mark_at l.marks.items n) ↔ Passes l.world l.traveller.player n;
  size : length l.marks.items ≡ l.exit;
}
