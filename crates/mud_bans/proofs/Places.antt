-- The index of the first network that equals a given one.
use Rattle.std.proofs.Common.{◌≡◌, ◌<◌, ◌≤◌, ℕ, List, length, get_or, true, false, nat_lt, Some, None}
use Rattle.std.proofs.Common.{refl, subst, arith}
use Rattle.std.specs.List.{position_or_len}
use Rattle.std.proofs.lemmas.Bool.Decides.{nat_tests}
use Rattle.std.proofs.lemmas.List.{get_or_default}
use Rattle.std.proofs.lemmas.List.Sums.{position_or_len_is}
use Rattle.mud_bans.specs.declared.network.Network.{Network}
use Rattle.mud_bans.specs.Network.{is_same}
use Rattle.mud_bans.specs.Bans.{place_of}

pub first_place : (nets : List Network) (net d : Network) (at : ℕ) → at < length nets
    → ((k : ℕ) → k < at → is_same (get_or nets k net) net ≡ false) → is_same (get_or nets at d) net ≡ true
    → Some at ≡ place_of nets net
first_place nets net d at within before there =
    let here : is_same (get_or nets at net) net ≡ true =
    subst (λ (n : Network). is_same n net ≡ true) (get_or_default nets at d net within) there in
    let place : position_or_len (λ other. is_same other net) nets ≡ at =
    position_or_len_is (λ other. is_same other net) nets at net (omega arith) before (λ h. here) in
    let test : nat_lt at (length nets) ≡ true = grind (arith, nat_tests, within) in
    rw (place, test) refl

pub no_place : (nets : List Network) (net : Network) (at : ℕ) → length nets ≤ at
    → ((k : ℕ) → k < at → is_same (get_or nets k net) net ≡ false) → None ≡ place_of nets net
no_place nets net at end before =
    let place : position_or_len (λ other. is_same other net) nets ≡ length nets =
    position_or_len_is (λ other. is_same other net) nets (length nets) net (omega arith)
    (λ k l. before k (omega arith)) (λ h. absurd (omega arith)) in
    let test : nat_lt (length nets) (length nets) ≡ false = grind (arith, nat_tests) in
    rw (place, test) refl
