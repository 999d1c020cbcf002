-- Calls that ask for no more than a bucket gives.
use Rattle.std.proofs.Common.{◌≡◌, ◌∙◌, refl, ap, ℕ, ◌+◌, ◌-◌, ◌*◌, ◌≤◌, min, max, Bool, true, false}
use Rattle.std.proofs.Common.{Some, None, is_none, if◌then◌else◌, cond, nat_le, ◌&&◌, List, [], ◌∷◌, arith}
use Rattle.std.proofs.Math.Nat.{mul-le-mul_right}
use Rattle.std.proofs.lemmas.Bool.Decides.{nat_tests}
use Rattle.std.proofs.lemmas.List.Sums.{sum_by-cons}
use Rattle.std.specs.Int.{div_ceil}
use Rattle.mud_meter.specs.Bucket.{Bucket, full, cost, refilled, wait_for, without, after_take}
use Rattle.mud_meter.specs.Calls.{Call, Take, Spend, time_of, tokens_of, after_call, let_through, all_through, asked}
use Rattle.mud_meter.specs.Calls.{during, AreInOrder}

-- a call that finds enough is let through, and its cost is subtracted
enough_goes : (r : Bucket) (tokens : ℕ) → cost r tokens ≤ r.level
    → ((if is_none (wait_for r tokens) then cost r tokens else 0) ≡ cost r tokens)
    × (after_take r tokens ≡ without r tokens)
enough_goes r tokens fits =
    let wait : ℕ = div_ceil (cost r tokens - r.level) r.rate in
    elim (nat_le (cost r tokens) r.level) as
    (λ v. nat_le (cost r tokens) r.level ≡ v
    → ((if is_none (if v then None else Some wait) then cost r tokens else 0) ≡ cost r tokens)
    × ((if is_none (if v then None else Some wait) then without r tokens else r) ≡ without r tokens)) [
      | true ↦ λ e. (refl, refl)
      | false ↦ λ e. absurd (grind (arith, nat_tests))
    ] refl

goes : (b : Bucket) (c : Call) → cost b (tokens_of c) ≤ (refilled b (time_of c)).level
    → (let_through b c ≡ cost b (tokens_of c)) × (after_call b c ≡ without (refilled b (time_of c)) (tokens_of c))
goes b (Take now tokens) fits = enough_goes (refilled b now) tokens fits
goes b (Spend now tokens) fits = (omega arith, refl)

-- the demand of a period is that of the first call and that of the later calls
when_during : (t : Bool) (b : Bucket) (c : Call) (cs : List Call)
    → asked b (cond t (c ∷ cs) cs) ≡ cond t (cost b (tokens_of c)) 0 + asked b cs
when_during true b c cs = sum_by-cons (λ (d : Call). cost b (tokens_of d)) c cs
when_during false b c cs = omega arith

first_asked : (b : Bucket) (from to : ℕ) (c : Call) (cs : List Call) → from ≤ time_of c → time_of c ≤ to
    → asked b (during from to (c ∷ cs)) ≡ cost b (tokens_of c) + asked b (during from to cs)
first_asked b from to c cs begun soon =
    let after : nat_le from (time_of c) ≡ true = grind (arith, nat_tests) in
    let before : nat_le (time_of c) to ≡ true = grind (arith, nat_tests) in
    let here : (nat_le from (time_of c) && nat_le (time_of c) to) ≡ true = rw (after, before) refl in
    when_during (nat_le from (time_of c) && nat_le (time_of c) to) b c (during from to cs)
    ∙ ap (λ (t : Bool). cond t (cost b (tokens_of c)) 0 + asked b (during from to cs)) here

rest_asked : (b : Bucket) (from to : ℕ) (c : Call) (cs : List Call)
    → asked b (during from to cs) ≤ asked b (during from to (c ∷ cs))
rest_asked b from to c cs =
    let is = when_during (nat_le from (time_of c) && nat_le (time_of c) to) b c (during from to cs) in
    omega (arith, is)

-- if no call comes before a time, the calls from that time on are all calls
all_during : (cs : List Call) (since from to : ℕ) → from ≤ since → AreInOrder since cs
    → during from to cs ≡ during 0 to cs
all_during [] since from to begun order = refl
all_during (c ∷ cs) since from to begun order =
    let later : since ≤ time_of c = order.0 in
    let rest : during from to cs ≡ during 0 to cs = all_during cs (time_of c) from to (omega arith) order.1 in
    let same : nat_le from (time_of c) ≡ nat_le 0 (time_of c) = grind (arith, nat_tests) in
    rw (rest, same) refl

-- the gain of a period is at most the sum of the gains of its parts
whole_le : (x y z r : ℕ) → z ≤ x + y → z * r ≤ x * r + y * r
whole_le x y z r h = let less : z * r ≤ (x + y) * r = mul-le-mul_right r h in omega arith

-- there is enough for the first call
first_fits : (k rest old gain most : ℕ) → k + rest ≤ old + gain → k ≤ most → k ≤ min (old + gain) most
first_fits k rest old gain most h fits = omega arith

-- the rest is enough for the later calls
rest_fits : (k rest old before after all most : ℕ) → k + rest ≤ old + all → all ≤ before + after
    → k + rest ≤ most + after → rest ≤ (min (old + before) most - k) + after
rest_fits k rest old before after all most h parts f = omega arith

-- A bucket lets all calls through under two conditions. Up to any time, the demand is at most the level and the gain
-- until then. In any period, it is at most the burst and the gain of the period.
all_goes : (cs : List Call) (b : Bucket) (since : ℕ) → b.last ≤ since → AreInOrder since cs
    → ((to : ℕ) → since ≤ to → asked b (during 0 to cs) ≤ b.level + (to - b.last) * b.rate)
    → ((from to : ℕ) → asked b (during from to cs) ≤ full b + (to - from) * b.rate)
    → all_through b cs ≡ asked b cs
all_goes [] b since begun order there most = refl
all_goes (c ∷ cs) b since begun order there most =
    let t : ℕ = time_of c in
    let k : ℕ = cost b (tokens_of c) in
    let r : Bucket = refilled b t in
    let next : Bucket = without r (tokens_of c) in
    let later : since ≤ t = order.0 in
    let before : ℕ = (t - b.last) * b.rate in
    let first = first_asked b 0 t c cs (omega arith) (omega arith) in
    let alone = first_asked b t t c cs (omega arith) (omega arith) in
    let in_all : k + asked b (during 0 t cs) ≤ b.level + before = omega (arith, there t later, first) in
    let none : (t - t) * b.rate ≤ 0 * b.rate = mul-le-mul_right b.rate (omega arith) in
    let at_once : k ≤ full b = omega (arith, most t t, alone, none) in
    let fits : k ≤ r.level = first_fits k (asked b (during 0 t cs)) b.level before (full b) in_all at_once in
    let went = goes b c fits in
    let rest : all_through next cs ≡ asked b cs =
    all_goes cs next t (omega arith) order.1
    (λ to soon.
    let after : ℕ = (to - max b.last t) * b.rate in
    let all : ℕ = (to - b.last) * b.rate in
    let parts : all ≤ before + after =
    whole_le (t - b.last) (to - max b.last t) (to - b.last) b.rate (omega arith) in
    let short : (to - t) * b.rate ≤ after = mul-le-mul_right b.rate (omega arith) in
    let asked_all = first_asked b 0 to c cs (omega arith) soon in
    let asked_then = first_asked b t to c cs (omega arith) soon in
    let same : asked b (during t to cs) ≡ asked b (during 0 to cs) =
    ap (asked b) (all_during cs t t to (omega arith) order.1) in
    rest_fits k (asked b (during 0 to cs)) b.level before after all (full b)
    (omega (arith, there to (omega arith), asked_all)) parts (omega (arith, most t to, asked_then, same, short)))
    (λ from to. omega (arith, most from to, rest_asked b from to c cs)) in
    let total = sum_by-cons (λ (d : Call). cost b (tokens_of d)) c cs in
    let first_is : let_through b c ≡ k = went.0 in
    let rest_is : all_through (after_call b c) cs ≡ asked b cs =
    ap (λ (a : Bucket). all_through a cs) went.1 ∙ rest in
    omega (arith, total, first_is, rest_is)

pub all_asked : (b : Bucket) (calls : List Call) → b.level ≡ full b → AreInOrder b.last calls
    → ((from to : ℕ) → asked b (during from to calls) ≤ full b + (to - from) * b.rate)
    → all_through b calls ≡ asked b calls
all_asked b calls at_first order most =
    all_goes calls b b.last (omega arith) order
    (λ to soon.
    let same : asked b (during b.last to calls) ≡ asked b (during 0 to calls) =
    ap (asked b) (all_during calls b.last b.last to (omega arith) order) in
    omega (arith, most b.last to, same, at_first))
    most
