-- Laws of the definitions. The gain of a period is `time * rate`.
use Rattle.std.specs.Prelude.{◌≡◌, ◌↔◌, ◌≤◌, ◌<◌, ℕ, ◌+◌, ◌-◌, ◌*◌, max, List, None, Some}
use Rattle.std.specs.List.{AllByRecursion}
use Rattle.mud_meter.specs.declared.meter.TheConstants.{TOKEN}
use Rattle.mud_meter.specs.Bucket.{Bucket, full, cost, refilled, wait_for, after_take}
use Rattle.mud_meter.specs.Calls.{Call, time_of, all_through, asked, during, AreInOrder}
use Rattle.mud_meter.specs.Debt.{Owing, after_ask, wait_of, Event, after_events, all_added, IsDuring}

-- in any period, calls in any order let through at most the burst and the gain of the period, whatever the level was
-- before
abbrev pub LetsThroughAtMost : Type 0
LetsThroughAtMost =
    (b : Bucket) (calls : List Call) (from to : ℕ)
    → AllByRecursion (λ c. (from ≤ time_of c) × (time_of c ≤ to)) calls
    → all_through b calls ≤ full b + (to - from) * b.rate

-- a take that has to wait is let through once that time has passed, and no sooner
abbrev pub WaitIsExact : Type 0
WaitIsExact =
    (b : Bucket) (now tokens wait later : ℕ) → wait_for (refilled b now) tokens ≡ Some wait
    → let after = after_take (refilled b now) tokens in
    (0 < wait) × ((wait_for (refilled after later) tokens ≡ None) ↔ (max b.last now + wait ≤ later))

-- a caller that takes no more than the gain since the last call never waits
abbrev pub SlowNeverWaits : Type 0
SlowNeverWaits =
    (b : Bucket) (now tokens : ℕ) → cost b tokens ≤ (now - b.last) * b.rate
    → wait_for (refilled b now) tokens ≡ None

-- a full bucket lets all calls through, if in no period they ask for more than the burst and the gain of the period
abbrev pub LetsThroughAll : Type 0
LetsThroughAll =
    (b : Bucket) (calls : List Call) → b.level ≡ full b → AreInOrder b.last calls
    → ((from to : ℕ) → asked b (during from to calls) ≤ full b + (to - from) * b.rate)
    → all_through b calls ≡ asked b calls

-- a bucket refilled at two times has the level of a bucket refilled once, at the later time
abbrev pub RefillsAlike : Type 0
RefillsAlike = (b : Bucket) (now later : ℕ) → refilled (refilled b now) later ≡ refilled b (max now later)

-- in any period, the callers of a debt owe at most the burst, the gain of the period, and what is owed at its end
abbrev pub OwesAtMost : Type 0
OwesAtMost =
    (d : Owing) (events : List Event) (from to : ℕ) → 0 < d.bucket.rate
    → AllByRecursion (IsDuring from to) events
    → (d.owed + all_added d events) * TOKEN
    ≤ full d.bucket + (to - from) * d.bucket.rate + (after_events d events).owed * TOKEN

-- nothing is owed when a caller may act
abbrev pub ActsWithoutDebt : Type 0
ActsWithoutDebt = (d : Owing) (now : ℕ) → wait_of d now ≡ None → (after_ask d now).owed ≡ 0
