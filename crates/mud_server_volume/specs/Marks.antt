-- When a server turns to its next volume.
use Rattle.std.specs.Prelude.{◌≡◌, ◌≤◌, ◌<◌, ℕ, ◌-◌, ◌/◌, max, nat_le, Bool, true, false, ◌&&◌, ◌||◌, if◌then◌else◌}
use Rattle.mud_chron.specs.declared.limits.TheConstants.{MOST_DESKS}
use Rattle.mud_server_volume.specs.declared.marks.Fill.{Fill}
use Rattle.mud_server_volume.specs.declared.marks.Progress.{Progress}
use Rattle.mud_server_volume.specs.declared.marks.Progress.TheVariants.{Idle, Runs, Found}
use Rattle.mud_server_volume.specs.declared.marks.Step.{Step}
use Rattle.mud_server_volume.specs.declared.marks.Step.TheVariants as step

-- the numbers of changes, for a capacity: the search for a shorter history begins, the server turns once the search has
-- ended, and it turns while the search runs
abbrev pub search_mark : ℕ → ℕ
search_mark capacity = capacity - capacity / 4

abbrev pub turn_mark : ℕ → ℕ
turn_mark capacity = capacity - capacity / 8

-- each session may just make one more change
abbrev pub last_mark : ℕ → ℕ
last_mark capacity = max (turn_mark capacity) (capacity - max (capacity / 16) MOST_DESKS)

-- the greatest number of changes with which a next volume begins
abbrev pub most_begun : ℕ → ℕ
most_begun capacity = capacity - max (capacity / 4) 1

-- a volume has that many changes, and as many as it turns with by itself
abbrev pub has : Fill → ℕ → Bool
has fill mark = nat_le mark fill.changes && nat_le fill.least fill.changes

-- the next step about the turn: the host's request counts like a full volume, but a search comes first. A world that
-- takes most of a volume by itself never makes the server turn before a search has ended
abbrev pub decision : Fill → Progress → (is_large : Bool) → Step
decision fill Idle is_large =
    if fill.is_requested || has fill (search_mark fill.capacity) then step.Search else step.Wait
decision fill Runs true = step.Wait
decision fill Runs false = if has fill (last_mark fill.capacity) then step.Turn else step.Wait
decision fill (Found begun) is_large =
    if fill.is_requested || has fill (turn_mark fill.capacity)
    then (if nat_le begun (most_begun fill.capacity) then step.Turn else step.Drop)
    else step.Wait

-- unless the host requests it, a server turns only with more changes than any volume begins with
abbrev pub NoTurnAtOnce : Type 0
NoTurnAtOnce =
    (fill : Fill) (progress : Progress) (is_large : Bool) → 1 ≤ fill.capacity → fill.is_requested ≡ false
    → decision fill progress is_large ≡ step.Turn → most_begun fill.capacity < fill.changes
