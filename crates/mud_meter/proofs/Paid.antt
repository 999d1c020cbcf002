-- The payments of a debt.
use Rattle.std.proofs.Common.{◌≡◌, refl, sym, ap, subst, ℕ, ◌+◌, ◌-◌, ◌*◌, ◌≤◌, ◌<◌, min, true, false, Some, None}
use Rattle.std.proofs.Common.{is_none, if◌then◌else◌, ◌==◌, nat_le, List, [], ◌∷◌, arith}
use Rattle.std.proofs.lemmas.Bool.Decides.{nat_tests}
use Rattle.std.specs.Int.{div_ceil}
use Rattle.std.specs.List.{AllByRecursion}
use Rattle.mud_meter.specs.declared.meter.TheConstants.{TOKEN}
use Rattle.mud_meter.specs.Bucket.{Bucket, full, payable, cost, refilled, without}
use Rattle.mud_meter.specs.Calls.{Call, Take, Spend, time_of, let_through, all_through}
use Rattle.mud_meter.specs.Debt.{Owing, due, after_ask, after_owe, drained, Event, Ask, Owe, Drain, after_events}
use Rattle.mud_meter.specs.Debt.{all_added, IsDuring}
use Rattle.mud_meter.proofs.Through.{through_at_most}

-- the calls of the bucket that successive events make
abbrev calls_of : Owing → List Event → List Call
calls_of d [] = []
calls_of d (Ask now ∷ es) = Take now (due d) ∷ calls_of (after_ask d now) es
calls_of d (Owe tokens ∷ es) = calls_of (after_owe d tokens) es
calls_of d (Drain now ∷ es) = Spend now d.bucket.burst ∷ calls_of (drained d now) es

-- what is due costs its tokens, and is owed
due_costs : (b : Bucket) (owed : ℕ) → 0 < b.rate
    → (cost b (payable b owed) ≡ payable b owed * TOKEN) × (payable b owed ≤ owed)
due_costs b owed some =
    elim (b.rate == 0) as
    (λ v. (b.rate == 0) ≡ v
    → ((if v then 0 else min (if v then owed else min owed b.burst) b.burst * TOKEN)
    ≡ (if v then owed else min owed b.burst) * TOKEN) × ((if v then owed else min owed b.burst) ≤ owed)) [
      | true ↦ λ e. absurd (grind (arith, nat_tests))
      | false ↦ λ e. let same : min (min owed b.burst) b.burst ≡ min owed b.burst = omega arith in
          (ap (λ n. n * TOKEN) same, omega arith)
    ] refl

-- a caller that asks pays as much as the bucket lets through
ask_pays : (d : Owing) (now : ℕ) → 0 < d.bucket.rate
    → (d.owed * TOKEN ≡ let_through d.bucket (Take now (due d)) + (after_ask d now).owed * TOKEN)
    × ((after_ask d now).bucket.rate ≡ d.bucket.rate)
ask_pays d now some =
    let r : Bucket = refilled d.bucket now in
    let wait : ℕ = div_ceil (cost r (due d) - r.level) r.rate in
    let costs = due_costs d.bucket d.owed some in
    elim (nat_le (cost r (due d)) r.level) as
    (λ v. (d.owed * TOKEN ≡ (if is_none (if v then None else Some wait) then cost d.bucket (due d) else 0)
    + (if is_none (if v then None else Some wait) then d.owed - due d else d.owed) * TOKEN)
    × ((if is_none (if v then None else Some wait) then without r (due d) else r).rate ≡ d.bucket.rate)) [
      | true ↦ (omega (arith, costs.0, costs.1), refl)
      | false ↦ (omega arith, refl)
    ]

-- all that is owed at first or added is paid or owed at the end
paid : (d : Owing) (es : List Event) → 0 < d.bucket.rate
    → (d.owed + all_added d es) * TOKEN
    ≤ all_through d.bucket (calls_of d es) + (after_events d es).owed * TOKEN
paid d [] some = omega arith
paid d (Ask now ∷ es) some =
    let one = ask_pays d now some in
    let rest = paid (after_ask d now) es (subst (λ n. 0 < n) (sym one.1) some) in
    omega (arith, one.0, rest)
paid d (Owe tokens ∷ es) some = let rest = paid (after_owe d tokens) es some in omega (arith, rest)
paid d (Drain now ∷ es) some = let rest = paid (drained d now) es some in omega (arith, rest)

calls_within : (d : Owing) (es : List Event) (from to : ℕ) → AllByRecursion (IsDuring from to) es
    → AllByRecursion (λ c. (from ≤ time_of c) × (time_of c ≤ to)) (calls_of d es)
calls_within d [] from to within = tt
calls_within d (Ask now ∷ es) from to within = (within.0, calls_within (after_ask d now) es from to within.1)
calls_within d (Owe tokens ∷ es) from to within = calls_within (after_owe d tokens) es from to within.1
calls_within d (Drain now ∷ es) from to within = (within.0, calls_within (drained d now) es from to within.1)

pub owes_at_most : (d : Owing) (es : List Event) (from to : ℕ) → 0 < d.bucket.rate
    → AllByRecursion (IsDuring from to) es
    → (d.owed + all_added d es) * TOKEN
    ≤ full d.bucket + (to - from) * d.bucket.rate + (after_events d es).owed * TOKEN
owes_at_most d es from to some within =
    let is = paid d es some in
    let most = through_at_most d.bucket (calls_of d es) from to (calls_within d es from to within) in
    omega (arith, is, most)
