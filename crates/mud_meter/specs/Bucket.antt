-- A token bucket. Levels and costs are in units, and times in whole microseconds, so N tokens a minute are N units a
-- microsecond.
use Rattle.std.specs.Prelude.{ℕ, ◌+◌, ◌-◌, ◌*◌, ◌/◌, ◌==◌, nat_le, min, max, if◌then◌else◌, Option, None, Some, is_none}
use Rattle.std.specs.Int.{div_ceil}
use Rattle.std.specs.Duration.{as_nanos}
use Rattle.std.specs.declared.time.Duration.{Duration}
use Rattle.mud_meter.specs.declared.meter.TheConstants.{TOKEN}

-- a time in whole microseconds
abbrev pub micros : Duration → ℕ
micros time = as_nanos time / 1_000

-- microseconds in nanoseconds
abbrev pub in_nanos : ℕ → ℕ
in_nanos n = n * 1_000

-- a bucket: tokens gained a minute (0: no limit), greatest number of tokens, level in units, and the latest time at
-- which it was asked
pub record Bucket : Type 0 where
  pub rate : ℕ
  pub burst : ℕ
  pub level : ℕ
  pub last : ℕ

-- the greatest level
abbrev pub full : Bucket → ℕ
full b = b.burst * TOKEN

-- the cost of a number of tokens: at most the greatest level, and 0 if there is no limit
abbrev pub cost : Bucket → ℕ → ℕ
cost b tokens = if b.rate == 0 then 0 else min tokens b.burst * TOKEN

-- the number of tokens that can be taken at once: as many as the bucket holds, and any number if there is no limit
abbrev pub payable : Bucket → ℕ → ℕ
payable b tokens = if b.rate == 0 then tokens else min tokens b.burst

-- the bucket after its gain since the latest time, up to its greatest level; an earlier time changes nothing
abbrev pub refilled : Bucket → ℕ → Bucket
refilled b now = record b { level = min (b.level + (now - b.last) * b.rate) (full b); last = max b.last now }

-- the time until the bucket has this many tokens, if it has too few
abbrev pub wait_for : Bucket → ℕ → Option ℕ
wait_for b tokens =
    if nat_le (cost b tokens) b.level then None else Some (div_ceil (cost b tokens - b.level) b.rate)

-- the bucket without this many tokens, or empty if it has fewer
abbrev pub without : Bucket → ℕ → Bucket
without b tokens = record b { level = b.level - cost b tokens }

-- the bucket after this many tokens are taken, if it has them
abbrev pub after_take : Bucket → ℕ → Bucket
after_take b tokens = if is_none (wait_for b tokens) then without b tokens else b
