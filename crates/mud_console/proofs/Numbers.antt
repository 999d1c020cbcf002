-- Decimal digits and their values.
use Rattle.std.proofs.Common.{◌≡◌, ℕ, ◌<◌, ◌^◌, Bool, true, false, ◌&&◌, nat_lt, if◌then◌else◌, Some, None}
use Rattle.std.proofs.Common.{Result, Ok, Err}
use Rattle.std.proofs.Common.{List, length, refl, ap, arith}
use Rattle.std.specs.Result.{OkIff, result_ok}
use Rattle.std.specs.Str.{all_ascii_digits}
use Rattle.std.specs.Str.Parse.{digits_value}
use Rattle.std.proofs.lemmas.Bool.Decides.{nat_tests}
use Rattle.std.proofs.lemmas.Str.Parse.{IsNumeralModel, numerals_by_value, tells_all_ascii_digits}
use Rattle.mud_console.specs.Texts.{number_in}

pub own : IsNumeralModel (λ ds. all_ascii_digits ds ≡ true) (digits_value 10)
own = numerals_by_value _ tells_all_ascii_digits

pub number_is : {E : Type 0} (bs : List ℕ) (r : Result ℕ E)
    → OkIff r ((all_ascii_digits bs ≡ true) × (0 < length bs) × (digits_value 10 bs < 2 ^ 32)) (digits_value 10 bs)
    → result_ok r ≡ number_in bs
number_is bs (Ok n) h =
    let some : nat_lt 0 (length bs) ≡ true = grind (arith, nat_tests, h.0.1) in
    let fits : nat_lt (digits_value 10 bs) (2 ^ 32) ≡ true = grind (arith, nat_tests, h.0.2) in
    rw (some, h.0.0, fits) (ap Some h.1)
number_is bs (Err e) h =
    let test : Bool = nat_lt 0 (length bs) && all_ascii_digits bs && nat_lt (digits_value 10 bs) (2 ^ 32) in
    elim test as (λ v. test ≡ v → None ≡ (if v then Some (digits_value 10 bs) else None)) [
      | true ↦ λ is.
          absurd (h (grind (arith, nat_tests, is), grind (arith, nat_tests, is), grind (arith, nat_tests, is)))
      | false ↦ λ is. refl
    ] refl
