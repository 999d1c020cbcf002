-- The time limits of a session, in nanoseconds.
use Rattle.std.specs.Prelude.{ℕ, zero, suc, ◌-◌, ◌*◌, min, Option, None, Some, Result, Ok, Err}
use Rattle.mud_socket.specs.declared.parting.Parting.{Parting}
use Rattle.mud_socket.specs.declared.parting.Parting.TheVariants.{Idle, Unnamed}

-- the limits without a line and without a player, the time of the last line, and the time of the beginning
pub record Waiting : Type 0 where
  pub idle : Option ℕ
  pub unnamed : Option ℕ
  pub last_line : ℕ
  pub start : ℕ

-- a limit of this many seconds; 0 means no limit
abbrev pub limit_of : ℕ → Option ℕ
limit_of zero = None
limit_of (suc n) = Some (suc n * 1_000_000_000)

-- the time left of a limit that began at a time
abbrev pub left_of : Option ℕ → (since now : ℕ) → Option ℕ
left_of None since now = None
left_of (Some limit) since now = Some (limit - (now - since))

-- the shorter of two waits; None is endless
abbrev pub shorter_of : Option ℕ → Option ℕ → Option ℕ
shorter_of None other = other
shorter_of (Some n) None = Some n
shorter_of (Some n) (Some m) = Some (min n m)

-- the time that the next read waits. A wait with no time left ends the session, the one for a line before the other
abbrev pub wait_for : (idle unnamed : Option ℕ) → Result (Option ℕ) Parting
wait_for (Some zero) unnamed = Err Idle
wait_for idle (Some zero) = Err Unnamed
wait_for idle unnamed = Ok (shorter_of idle unnamed)

abbrev pub wait_of : Waiting → (now : ℕ) → Result (Option ℕ) Parting
wait_of w now = wait_for (left_of w.idle w.last_line now) (left_of w.unnamed w.start now)
