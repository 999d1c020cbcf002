use Rattle.std.proofs.Common.{◌≡◌, ℕ, ◌<◌, ◌≤◌, length}
use Rattle.std.specs.Prelude.{◌||◌}
use Rattle.mud_survey.specs.inner.Marks.{mark_at}
use Rattle.mud_survey.proofs.marks.mark_all.Given as goal

-- the marks of the numbers so far are added
abbrev pub invariant-loop-i : goal.invariant-loop-i
invariant-loop-i l = record {
  done : (n : ℕ) → n < l.i → mark_at l.marks.items n ≡ (mark_at l.initial.marks.items n || mark_at l.others n);
  rest : (n : ℕ) → l.i ≤ n → mark_at l.marks.items n ≡ mark_at l.initial.marks.items n;
  size : length l.marks.items ≡ length l.others;
}
