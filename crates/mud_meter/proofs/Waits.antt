-- The waiting time until there are enough tokens.
use Rattle.std.proofs.Common.{◌≡◌, ◌↔◌, refl, subst, ℕ, ◌+◌, ◌-◌, ◌*◌, ◌≤◌, ◌<◌, min, Bool, true, false, Some, None}
use Rattle.std.proofs.Common.{is_none, if◌then◌else◌, nat_le, ◌==◌, arith}
use Rattle.std.proofs.Math.Nat.{mul-le-mul_right, lt_of_mul-lt-mul_right}
use Rattle.std.proofs.lemmas.Bool.Decides.{nat_tests}
use Rattle.std.proofs.lemmas.Grind.{div_ceil_times}
use Rattle.std.specs.Int.{div_ceil}
use Rattle.mud_meter.specs.declared.meter.TheConstants.{TOKEN}
use Rattle.mud_meter.specs.Bucket.{Bucket, full, cost, refilled, wait_for, without, after_take}

-- a quotient that is rounded up is the least number of periods
up_to : (a b d : ℕ) → 0 < b → a ≤ d * b → div_ceil a b ≤ d
up_to a b d pos h =
    let t = div_ceil_times a b pos in
    let below : div_ceil a b * b < (d + 1) * b = omega (arith, t.1) in
    let lt : div_ceil a b < d + 1 = lt_of_mul-lt-mul_right b below in
    omega arith

from_on : (a b d : ℕ) → 0 < b → div_ceil a b ≤ d → a ≤ d * b
from_on a b d pos h =
    let t = div_ceil_times a b pos in
    let more : div_ceil a b * b ≤ d * b = mul-le-mul_right b h in
    omega (arith, t.0)

not_zero : (a b : ℕ) → 0 < b → 0 < a → 0 < div_ceil a b
not_zero a b pos some =
    let t = div_ceil_times a b pos in
    let more : 0 * b < div_ceil a b * b = omega (arith, t.0) in
    lt_of_mul-lt-mul_right b more

-- a cost is at most the burst, and it is 0 if there is no limit
pub cost_le : (b : Bucket) (tokens : ℕ) → cost b tokens ≤ full b
cost_le b tokens =
    elim (b.rate == 0) as (λ v. (if v then 0 else min tokens b.burst * TOKEN) ≤ full b) [
      | true ↦ omega arith
      | false ↦ omega arith
    ]

is_limited : (b : Bucket) (tokens : ℕ) → 0 < cost b tokens → 0 < b.rate
is_limited b tokens =
    elim (b.rate == 0) as (λ v. (b.rate == 0) ≡ v → 0 < (if v then 0 else min tokens b.burst * TOKEN) → 0 < b.rate) [
      | true ↦ λ e h. absurd (omega arith)
      | false ↦ λ e h. grind (arith, nat_tests)
    ] refl

-- there is no wait exactly if there are enough tokens
none_if : (t : Bool) (n : ℕ) → t ≡ true → (if t then None else Some n) ≡ None
none_if t n e = rw e refl

if_none : (t : Bool) (n : ℕ) → (if t then None else Some n) ≡ None → t ≡ true
if_none true n e = refl
if_none false n e = absurd (cc)

-- a lower bound on the gain that k still needs
missing : (k l d r most : ℕ) → k ≤ min (l + d * r) most → k - l ≤ d * r
missing k l d r most h = omega arith

gained : (k l d r most : ℕ) → k ≤ most → k - l ≤ d * r → k ≤ min (l + d * r) most
gained k l d r most fits h = omega arith

-- the time at which a bucket with too few tokens has enough
has_enough : (b : Bucket) (tokens later : ℕ) → b.level < cost b tokens
    → (wait_for (refilled b later) tokens ≡ None)
    ↔ (b.last + div_ceil (cost b tokens - b.level) b.rate ≤ later)
has_enough b tokens later few =
    let most : cost b tokens ≤ full b = cost_le b tokens in
    let pos : 0 < b.rate = is_limited b tokens (omega arith) in
    let wait : ℕ = div_ceil (cost b tokens - b.level) b.rate in
    let some : 0 < wait = not_zero (cost b tokens - b.level) b.rate pos (omega arith) in
    let level : ℕ = (refilled b later).level in (
      λ none.
          let enough : nat_le (cost b tokens) level ≡ true =
          if_none (nat_le (cost b tokens) level) (div_ceil (cost b tokens - level) b.rate) none in
          let fits : cost b tokens ≤ level = grind (arith, nat_tests) in
          let gives = missing (cost b tokens) b.level (later - b.last) b.rate (full b) fits in
          let soon : wait ≤ later - b.last = up_to (cost b tokens - b.level) b.rate (later - b.last) pos gives in
          omega arith,
      λ late.
          let gives = from_on (cost b tokens - b.level) b.rate (later - b.last) pos (omega arith) in
          let fits : cost b tokens ≤ level =
          gained (cost b tokens) b.level (later - b.last) b.rate (full b) most gives in
          let enough : nat_le (cost b tokens) level ≡ true = grind (arith, nat_tests) in
          none_if (nat_le (cost b tokens) level) (div_ceil (cost b tokens - level) b.rate) enough,
    )

pub waits : (b : Bucket) (tokens wait later : ℕ) → wait_for b tokens ≡ Some wait
    → (0 < wait) × ((wait_for (refilled (after_take b tokens) later) tokens ≡ None) ↔ (b.last + wait ≤ later))
waits b tokens wait later =
    let least : ℕ = div_ceil (cost b tokens - b.level) b.rate in
    elim (nat_le (cost b tokens) b.level) as
    (λ v. nat_le (cost b tokens) b.level ≡ v → (if v then None else Some least) ≡ Some wait
    → (0 < wait)
    × ((wait_for (refilled (if is_none (if v then None else Some least) then without b tokens else b) later) tokens
    ≡ None) ↔ (b.last + wait ≤ later))) [
      | true ↦ λ e told. absurd (cc)
      | false ↦ λ e told.
          let few : b.level < cost b tokens = grind (arith, nat_tests) in
          let pos : 0 < b.rate = is_limited b tokens (omega arith) in
          let is : least ≡ wait = cc in
          subst (λ (n : ℕ). (0 < n) × ((wait_for (refilled b later) tokens ≡ None) ↔ (b.last + n ≤ later))) is
          (not_zero (cost b tokens - b.level) b.rate pos (omega arith), has_enough b tokens later few)
    ] refl
