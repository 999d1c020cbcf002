-- An object's number is below the next number.
use Rattle.std.proofs.Common.{◌≡◌, ℕ, ◌+◌, ◌<◌, ◌≤◌, Bool, true, false, cond, List, [], ◌∷◌, Some, refl, sym, ◌∙◌, ap}
use Rattle.std.proofs.Common.{arith}
use Rattle.std.specs.Prelude.{nat_eq, is_some}
use Rattle.std.specs.Map.{lookup}
use Rattle.std.proofs.lemmas.Bool.{eqb-true}
use Rattle.mud_key.specs.declared.limits.TheConstants.{LAST_NUMBER}
use Rattle.mud_world.specs.declared.record.Record.{Record}
use Rattle.mud_world.specs.State.{State, exists}
use Rattle.mud_world.specs.Sound.{IsRising, IsSound}

bool_cases : {P : Type 0} (b : Bool) → (b ≡ true → P) → (b ≡ false → P) → P
bool_cases true f g = f refl
bool_cases false f g = g refl

rising_span : (low high : ℕ) (es : List (ℕ × Record)) → IsRising low es high → low ≤ high
rising_span low high [] rises = rises
rising_span low high (e ∷ es) rises = let more = rising_span (e.0 + 1) high es rises.1 in omega (arith, more, rises.0)

below_high : (low high n : ℕ) (es : List (ℕ × Record)) → IsRising low es high → is_some (lookup (nat_eq n) es) ≡ true
    → n < high
below_high low high n [] rises at = absurd (let bad : false ≡ true = at in cc)
below_high low high n (e ∷ es) rises at =
    bool_cases (nat_eq n e.0)
    (λ here. let same : n ≡ e.0 = eqb-true n e.0 here in let more : e.0 + 1 ≤ high =
    rising_span (e.0 + 1) high es rises.1 in omega arith)
    (λ past. below_high (e.0 + 1) high n es rises.1
    (sym (ap (λ b. is_some (cond b (Some e.1) (lookup (nat_eq n) es))) past) ∙ at))

-- an object of a sound world has a number that a key can hold
pub number_of_object : (w : State) (n : ℕ) → IsSound w → exists w n ≡ true → n ≤ LAST_NUMBER
number_of_object w n sound at =
    let below = below_high 0 w.next n w.objects sound.rising at in
    omega (arith, below, sound.limit)
