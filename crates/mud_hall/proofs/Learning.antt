-- The entries seen by a desk that learned from another one.
use Rattle.std.proofs.Common.{◌≡◌, ◌≤◌, ◌<◌, ◌⊎◌, inl, inr, Bool, true, false, List, [], ◌∷◌, ◌++◌, length}
use Rattle.std.proofs.Common.{refl, sym, ap, ◌∙◌, arith, length-append, append-nil}
use Rattle.std.specs.Prelude.{nat_lt, if◌then◌else◌}
use Rattle.std.proofs.lemmas.Bool.Decides.{nat_tests}
use mathlib.Core.List.{IsPrefix}
use Rattle.mud_chron.specs.Entry.{Entry}

none-left : (more : List Entry) → length more ≤ 0 → more ≡ []
none-left [] few = refl
none-left (e ∷ more) few = absurd (omega (arith, few))

-- a prefix that is at least as long is the whole
whole : (f h : List Entry) → IsPrefix f h → length h ≤ length f → h ≡ f
whole f h on few =
    let rest : on.0 ≡ [] = none-left on.0 (omega (arith, few, ap length on.1, length-append f on.0)) in
    sym on.1 ∙ ap (λ (x : List Entry). f ++ x) rest ∙ append-nil f

pub learned : (old other new : List Entry) → (new ≡ old) ⊎ (new ≡ other) → IsPrefix old new → IsPrefix other new
    → new ≡ (if nat_lt (length old) (length other) then other else old)
learned old other new is mine theirs = go (nat_lt (length old) (length other)) refl is
  where
    go : (t : Bool) → nat_lt (length old) (length other) ≡ t → (new ≡ old) ⊎ (new ≡ other)
        → new ≡ (if t then other else old)
    go true e (inl same) =
        let less : length old < length other = grind (arith, nat_tests) in
        whole other new theirs (omega (arith, ap length same, less))
    go true e (inr same) = same
    go false e (inl same) = same
    go false e (inr same) =
        let most : length other ≤ length old = grind (arith, nat_tests) in
        whole old new mine (omega (arith, ap length same, most))
