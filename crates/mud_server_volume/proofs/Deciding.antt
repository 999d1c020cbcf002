-- A server turns only after play.
use Rattle.std.proofs.Common.{◌≡◌, ◌≤◌, ◌<◌, ℕ, Bool, true, false, ◌||◌, refl, arith}
use Rattle.std.specs.Prelude.{◌&&◌, if◌then◌else◌, nat_le}
use Rattle.std.proofs.lemmas.Bool.Decides.{nat_tests}
use Rattle.mud_server_volume.specs.declared.marks.Fill.{Fill}
use Rattle.mud_server_volume.specs.declared.marks.Progress.TheVariants.{Idle, Runs, Found}
use Rattle.mud_server_volume.specs.declared.marks.Step.TheVariants as step
use Rattle.mud_server_volume.specs.Marks.{turn_mark, last_mark, most_begun, has, NoTurnAtOnce}

no_turn : (b : Bool) → (if b then step.Search else step.Wait) ≡ step.Turn → ⊥
no_turn true e = absurd (cc)
no_turn false e = absurd (cc)

if_runs : (b : Bool) → (if b then step.Turn else step.Wait) ≡ step.Turn → b ≡ true
if_runs true e = refl
if_runs false e = absurd (cc)

if_found : (b d : Bool) → (if b then (if d then step.Turn else step.Drop) else step.Wait) ≡ step.Turn → b ≡ true
if_found true d e = refl
if_found false d e = absurd (cc)

unasked_so : (a b : Bool) → a ≡ false → (a || b) ≡ true → b ≡ true
unasked_so true b none some = absurd (cc)
unasked_so false b none some = some

both : (a b : Bool) → (a && b) ≡ true → a ≡ true
both true b e = refl
both false b e = absurd (cc)

-- it has that many changes
past : (fill : Fill) (mark : ℕ) → has fill mark ≡ true → mark ≤ fill.changes
past fill mark is =
    let first : nat_le mark fill.changes ≡ true =
    both (nat_le mark fill.changes) (nat_le fill.least fill.changes) is in
    grind (arith, nat_tests, first)

after_turn : (c n : ℕ) → 1 ≤ c → turn_mark c ≤ n → most_begun c < n
after_turn c n from past = omega arith

after_last : (c n : ℕ) → 1 ≤ c → last_mark c ≤ n → most_begun c < n
after_last c n from past = omega arith

pub no_turn_at_once : NoTurnAtOnce
no_turn_at_once fill Idle is_large from unasked turns = absurd (no_turn _ turns)
no_turn_at_once fill Runs true from unasked turns = absurd (cc)
no_turn_at_once fill Runs false from unasked turns =
    after_last fill.capacity fill.changes from (past fill (last_mark fill.capacity) (if_runs _ turns))
no_turn_at_once fill (Found begun) is_large from unasked turns =
    after_turn fill.capacity fill.changes from
    (past fill (turn_mark fill.capacity) (unasked_so fill.is_requested _ unasked (if_found _ _ turns)))
