-- A bucket whose callers act first and pay later.
use Rattle.std.specs.Prelude.{ℕ, ◌+◌, ◌-◌, ◌≤◌, ◌==◌, min, if◌then◌else◌, Option, Some, is_none, unwrap_or}
use Rattle.std.specs.Prelude.{List, [], ◌∷◌}
use Rattle.mud_meter.specs.Bucket.{Bucket, payable, refilled, wait_for, without, after_take}

-- a debt: the bucket that pays, the number of tokens that are owed, and the greatest number of them
pub record Owing : Type 0 where
  pub bucket : Bucket
  pub owed : ℕ
  pub most : ℕ

-- the number of tokens that are paid next
abbrev pub due : Owing → ℕ
due d = payable d.bucket d.owed

-- the debt after a caller has asked: what is due is paid, if the bucket has it
abbrev pub after_ask : Owing → ℕ → Owing
after_ask d now = let b = refilled d.bucket now in
    record d {
      bucket = after_take b (due d);
      owed = if is_none (wait_for b (due d)) then d.owed - due d else d.owed;
    }

-- the time until a caller should ask again, or None if it may act: nothing is owed, and there is a token
abbrev pub wait_of : Owing → ℕ → Option ℕ
wait_of d now = let after = after_ask d now in
    if after.owed == 0 then wait_for after.bucket 1
    else Some (unwrap_or (wait_for (refilled d.bucket now) (due d)) 0)

-- the number of tokens that a cost adds: no more than the greatest debt leaves
abbrev pub addable : Owing → ℕ → ℕ
addable d tokens = min tokens (d.most - d.owed)

-- the debt after a cost is added
abbrev pub after_owe : Owing → ℕ → Owing
after_owe d tokens = record d { owed = d.owed + addable d tokens }

-- the debt after its bucket is emptied
abbrev pub drained : Owing → ℕ → Owing
drained d now = record d { bucket = without (refilled d.bucket now) d.bucket.burst }

-- a caller asks at a time, or owes for what it did; or the bucket is emptied
pub data Event : Type 0 where
  Ask : (now : ℕ) → Event
  Owe : (tokens : ℕ) → Event
  Drain : (now : ℕ) → Event

abbrev pub after_event : Owing → Event → Owing
after_event d (Ask now) = after_ask d now
after_event d (Owe tokens) = after_owe d tokens
after_event d (Drain now) = drained d now

abbrev pub after_events : Owing → List Event → Owing
after_events d [] = d
after_events d (e ∷ es) = after_events (after_event d e) es

-- the number of tokens that an event adds
abbrev pub added : Owing → Event → ℕ
added d (Ask now) = 0
added d (Owe tokens) = addable d tokens
added d (Drain now) = 0

-- the number of tokens that successive events add
abbrev pub all_added : Owing → List Event → ℕ
all_added d [] = 0
all_added d (e ∷ es) = added d e + all_added (after_event d e) es

-- an event with a time is within the period
abbrev pub IsDuring : (from to : ℕ) → Event → Type 0
IsDuring from to (Ask now) = (from ≤ now) × (now ≤ to)
IsDuring from to (Owe tokens) = Unit {0}
IsDuring from to (Drain now) = (from ≤ now) × (now ≤ to)
