-- Countdowns to an announced stop. Times are in nanoseconds.
use Rattle.std.specs.Prelude.{ℕ, ◌-◌, ◌*◌, nat_le, nat_lt, Option, None, Some, if◌then◌else◌}
use Rattle.mud_console.specs.declared.countdown.Due.{Due}
use Rattle.mud_console.specs.declared.countdown.Due.TheVariants.{Nothing, Tell, Stop}

-- the time of the stop, and the number of seconds in the latest announcement
pub record Counting : Type 0 where
  pub end : ℕ
  pub told : ℕ

-- this number of seconds
abbrev pub nanos : ℕ → ℕ
nanos seconds = seconds * 1_000_000_000

-- the mark that was passed last if this much time is left
abbrev pub mark_of : ℕ → Option ℕ
mark_of left =
    if nat_le left (nanos 10) then Some 10
    else (if nat_le left (nanos 60) then Some 60 else (if nat_le left (nanos 300) then Some 300 else None))

-- a mark is announced if no later one was
abbrev pub told_of : (told : ℕ) → Option ℕ → Due
told_of told None = Nothing
told_of told (Some mark) = if nat_lt mark told then Tell mark else Nothing

-- the action that is due now
abbrev pub due_of : Counting → (now : ℕ) → Due
due_of c now = if nat_le c.end now then Stop else told_of c.told (mark_of (c.end - now))

-- the number of seconds in the latest announcement after that action
abbrev pub last_told : (told : ℕ) → Due → ℕ
last_told told (Tell mark) = mark
last_told told Nothing = told
last_told told Stop = told

abbrev pub after_due : Counting → (now : ℕ) → Counting
after_due c now = record c { told = last_told c.told (due_of c now) }
