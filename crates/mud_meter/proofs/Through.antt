-- Bounds on the amount that calls let through.
use Rattle.std.proofs.Common.{◌≡◌, refl, ap, subst₂, ℕ, ◌+◌, ◌-◌, ◌*◌, ◌≤◌, min, max, Bool, true, false, Some, None}
use Rattle.std.proofs.Common.{is_none, if◌then◌else◌, nat_le, List, [], ◌∷◌, arith}
use Rattle.std.proofs.Math.Nat.{mul-le-mul_right}
use Rattle.std.proofs.lemmas.Bool.Decides.{nat_tests}
use Rattle.std.specs.Int.{div_ceil}
use Rattle.std.specs.List.{AllByRecursion}
use Rattle.mud_meter.specs.Bucket.{Bucket, full, cost, refilled, wait_for, without}
use Rattle.mud_meter.specs.Calls.{Call, Take, Spend, time_of, after_call, let_through, all_through}

-- a call on a refilled bucket changes only its level
level_alone : (t : Bool) (b : Bucket) (tokens : ℕ)
    → (if t then without b tokens else b) ≡ record b { level = (if t then without b tokens else b).level }
level_alone true b tokens = refl
level_alone false b tokens = refl

after_is : (b : Bucket) (c : Call)
    → after_call b c ≡ record (refilled b (time_of c)) { level = (after_call b c).level }
after_is b (Take now tokens) =
    level_alone (is_none (wait_for (refilled b now) tokens)) (refilled b now) tokens
after_is b (Spend now tokens) = refl

-- a call lets through no more than the level
was_there : (b : Bucket) (c : Call) → let_through b c + (after_call b c).level ≤ (refilled b (time_of c)).level
was_there b (Take now tokens) =
    let r : Bucket = refilled b now in
    let wait : ℕ = div_ceil (cost r tokens - r.level) r.rate in
    elim (nat_le (cost r tokens) r.level) as
    (λ v. nat_le (cost r tokens) r.level ≡ v
    → (if is_none (if v then None else Some wait) then cost r tokens else 0)
    + (if is_none (if v then None else Some wait) then without r tokens else r).level ≤ r.level) [
      | true ↦ λ e. let fits : cost r tokens ≤ r.level = grind (arith, nat_tests) in omega arith
      | false ↦ λ e. omega arith
    ] refl
was_there b (Spend now tokens) = omega arith

-- the gains of the parts of a period sum up to at most the gain of the period
parts_le : (x y z r : ℕ) → x + y ≤ z → x * r + y * r ≤ z * r
parts_le x y z r h = let more : (x + y) * r ≤ z * r = mul-le-mul_right r h in omega arith

-- the level after the first call, and the amount that later calls let through
first_and_rest : (first rest old new before after all most : ℕ) → first + new ≤ min (old + before) most
    → rest ≤ new + after → before + after ≤ all → first + rest ≤ old + all
first_and_rest first rest old new before after all most f r g = omega arith

rest_from_full : (first rest old new before after all most : ℕ) → first + new ≤ min (old + before) most
    → rest ≤ new + after → after ≤ all → first + rest ≤ most + all
rest_from_full first rest old new before after all most f r g = omega arith

-- a bound on the state after a call gives a bound on the state before it
after_rate : (b : Bucket) (c : Call) (rest to : ℕ)
    → rest ≤ (after_call b c).level + (to - (after_call b c).last) * (after_call b c).rate
    → rest ≤ (after_call b c).level + (to - max b.last (time_of c)) * b.rate
after_rate b c rest to h =
    let last : (after_call b c).last ≡ max b.last (time_of c) = ap (λ (a : Bucket). a.last) (after_is b c) in
    let rate : (after_call b c).rate ≡ b.rate = ap (λ (a : Bucket). a.rate) (after_is b c) in
    subst₂ (λ (l r : ℕ). rest ≤ (after_call b c).level + (to - l) * r) last rate h

-- the amount let through up to a time is at most the level and the gain until then
through_le : (cs : List Call) (b : Bucket) (from to : ℕ)
    → AllByRecursion (λ c. (from ≤ time_of c) × (time_of c ≤ to)) cs
    → all_through b cs ≤ b.level + (to - b.last) * b.rate
through_le [] b from to within = omega arith
through_le (c ∷ cs) b from to within =
    let t : ℕ = time_of c in
    let before : ℕ = (t - b.last) * b.rate in
    let after : ℕ = (to - max b.last t) * b.rate in
    let soon : t ≤ to = within.0.1 in
    let parts : before + after ≤ (to - b.last) * b.rate =
    parts_le (t - b.last) (to - max b.last t) (to - b.last) b.rate (omega arith) in
    let rest : all_through (after_call b c) cs ≤ (after_call b c).level + after =
    after_rate b c (all_through (after_call b c) cs) to (through_le cs (after_call b c) from to within.1) in
    first_and_rest (let_through b c) (all_through (after_call b c) cs) b.level (after_call b c).level before after
    ((to - b.last) * b.rate) (full b) (was_there b c) rest parts

pub through_at_most : (b : Bucket) (cs : List Call) (from to : ℕ)
    → AllByRecursion (λ c. (from ≤ time_of c) × (time_of c ≤ to)) cs
    → all_through b cs ≤ full b + (to - from) * b.rate
through_at_most b [] from to within = omega arith
through_at_most b (c ∷ cs) from to within =
    let t : ℕ = time_of c in
    let before : ℕ = (t - b.last) * b.rate in
    let after : ℕ = (to - max b.last t) * b.rate in
    let begun : from ≤ t = within.0.0 in
    let shorter : to - max b.last t ≤ to - from = omega arith in
    let less : after ≤ (to - from) * b.rate = mul-le-mul_right b.rate shorter in
    let rest : all_through (after_call b c) cs ≤ (after_call b c).level + after =
    after_rate b c (all_through (after_call b c) cs) to (through_le cs (after_call b c) from to within.1) in
    rest_from_full (let_through b c) (all_through (after_call b c) cs) b.level (after_call b c).level before after
    ((to - from) * b.rate) (full b) (was_there b c) rest less
