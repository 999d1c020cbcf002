use Rattle.std.proofs.Common.{ℕ, ◌<◌, ◌≢◌, get_or}
use Rattle.mud_hall.specs.Desk.{View}
use Rattle.mud_explain.proofs.play.place_of.Given as goal

-- no desk so far has the number
abbrev pub invariant-loop-i : goal.invariant-loop-i
invariant-loop-i g l = (a : ℕ) (d : View) → a < l.i → (get_or l.desks.items a d).state.number ≢ l.number
