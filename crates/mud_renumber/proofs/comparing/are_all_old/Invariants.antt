use Rattle.std.proofs.Common.{◌≡◌, ℕ, ◌<◌}
use Rattle.std.specs.Prelude.{IsTrue}
use Rattle.mud_world.specs.State.{exists}
use Rattle.mud_renumber.specs.Numbers.{number_at}
use Rattle.mud_renumber.proofs.comparing.are_all_old.Given as goal

-- each object of the other world so far is that of an old number
abbrev pub invariant-loop-new : goal.invariant-loop-new
invariant-loop-new l =
    (m : ℕ) → m < l.new → IsTrue (exists l.other m)
    → (n : ℕ) × IsTrue (exists l.world n) × (number_at l.numbers n ≡ m)
