-- Successive calls of a meter.
use Rattle.std.specs.Prelude.{ℕ, ◌+◌, ◌≤◌, ◌&&◌, nat_le, min, if◌then◌else◌, is_none, List, [], ◌∷◌, filter, sum_by}
use Rattle.mud_meter.specs.Bucket.{Bucket, cost, refilled, wait_for, without, after_take}

-- a call: tokens are taken at a time, or spent after the fact
pub data Call : Type 0 where
  Take : (now tokens : ℕ) → Call
  Spend : (now tokens : ℕ) → Call

-- the time of a call
abbrev pub time_of : Call → ℕ
time_of (Take now tokens) = now
time_of (Spend now tokens) = now

-- the number of tokens that a call asks for
abbrev pub tokens_of : Call → ℕ
tokens_of (Take now tokens) = tokens
tokens_of (Spend now tokens) = tokens

-- the bucket after a call
abbrev pub after_call : Bucket → Call → Bucket
after_call b (Take now tokens) = after_take (refilled b now) tokens
after_call b (Spend now tokens) = without (refilled b now) tokens

-- the amount that a call lets through: a take that does not wait, and a spending as far as the level allows it
abbrev pub let_through : Bucket → Call → ℕ
let_through b (Take now tokens) = if is_none (wait_for (refilled b now) tokens) then cost b tokens else 0
let_through b (Spend now tokens) = min (cost b tokens) (refilled b now).level

-- the amount that successive calls let through
abbrev pub all_through : Bucket → List Call → ℕ
all_through b [] = 0
all_through b (c ∷ cs) = let_through b c + all_through (after_call b c) cs

-- the amount that calls ask for
abbrev pub asked : Bucket → List Call → ℕ
asked b calls = sum_by (λ c. cost b (tokens_of c)) calls

-- the calls from one time to another
abbrev pub during : (from to : ℕ) → List Call → List Call
during from to calls = filter (λ c. nat_le from (time_of c) && nat_le (time_of c) to) calls

-- from this time on, the clock does not go backward
abbrev pub AreInOrder : (since : ℕ) → List Call → Type 0
AreInOrder since [] = Unit {0}
AreInOrder since (c ∷ cs) = (since ≤ time_of c) × AreInOrder (time_of c) cs
