-- The found differences decide whether worlds are the same.
use Rattle.std.proofs.Common.{◌≡◌, ◌≢◌, ◌<◌, true, false, List, [], ◌∷◌, length, refl, sym, ◌∙◌, ap, subst, arith}
use Rattle.std.specs.Prelude.{Bool, not, nat_eq, MatchBool, Option, Some, Result, Ok, Err, OnOk}
use Rattle.std.proofs.lemmas.Bool.{eqb-true, eqb-false}
use Rattle.mud_world.proofs.Records.{bool_cases}
use Rattle.mud_world.specs.State.{State}
use Rattle.mud_world.specs.Sound.{IsSound}
use Rattle.mud_world.specs.declared.record.Record.{Record}
use Rattle.mud_diff.specs.declared.difference.What.{What}
use Rattle.mud_diff.specs.declared.difference.Difference.{Difference}
use Rattle.mud_diff.specs.Differences.{DiffersIn, Differs, AreDifferences}
use Rattle.mud_diff.proofs.Same.{same_without_difference, nothing_differs_from_itself}

-- values that are not the same differ
pub negated : (b : Bool) (what : What) (r s : Record) (o p : Option Record) → o ≡ Some r → p ≡ Some s
    → MatchBool b (DiffersIn what (Some r) (Some s) → ⊥) (DiffersIn what (Some r) (Some s))
    → MatchBool (not b) (DiffersIn what o p) (DiffersIn what o p → ⊥)
negated b what r s o p is is' same =
    subst (λ q. MatchBool (not b) (DiffersIn what q p) (DiffersIn what q p → ⊥)) (sym is)
    (subst (λ q. MatchBool (not b) (DiffersIn what (Some r) q) (DiffersIn what (Some r) q → ⊥)) (sym is')
    (turned b same))
  where
    turned : (b : Bool) → MatchBool b (DiffersIn what (Some r) (Some s) → ⊥) (DiffersIn what (Some r) (Some s))
        → MatchBool (not b) (DiffersIn what (Some r) (Some s)) (DiffersIn what (Some r) (Some s) → ⊥)
    turned true same = same
    turned false same = same

-- where a difference was found the worlds are others
pub other_worlds : (old new : State) (ds : List Difference) → AreDifferences old new ds → 0 < length ds → old ≢ new
other_worlds old new [] are some same = omega (arith, some)
other_worlds old new (d ∷ ds) are some same =
    let differs : Differs old new d = (are.exact d).0 (0, some, refl) in
    nothing_differs_from_itself new d (subst (λ w. Differs w new d) same differs)

pub same_worlds : (old new : State) → IsSound old → IsSound new → (ds : List Difference) → AreDifferences old new ds
    → length ds ≡ 0 → old.next ≡ new.next → old ≡ new
same_worlds old new sound sound' ds are none next =
    same_without_difference old new sound sound' next
    (λ d differs. let (k, less, is) = (are.exact d).1 differs in omega (arith, less, none))

-- where no difference was found the next numbers decide
pub by_next : (old new : State) → IsSound old → IsSound new → (ds : List Difference) → AreDifferences old new ds
    → length ds ≡ 0 → (is_same : Bool) → is_same ≡ nat_eq old.next new.next
    → MatchBool is_same (old ≡ new) (old ≢ new)
by_next old new sound sound' ds are none is_same is =
    bool_cases is_same
    (λ yes. subst (λ b. MatchBool b (old ≡ new) (old ≢ new)) (sym yes)
    (same_worlds old new sound sound' ds are none (eqb-true old.next new.next (sym is ∙ yes))))
    (λ clear. subst (λ b. MatchBool b (old ≡ new) (old ≢ new)) (sym clear)
    (λ same. eqb-false old.next new.next (sym is ∙ clear) (ap (λ (w : State). w.next) same)))

pub by_found : (old new : State) (ds : List Difference) → AreDifferences old new ds → 0 < length ds
    → (is_same : Bool) → is_same ≡ false → MatchBool is_same (old ≡ new) (old ≢ new)
by_found old new ds are some is_same clear =
    subst (λ b. MatchBool b (old ≡ new) (old ≢ new)) (sym clear) (other_worlds old new ds are some)

-- a consequence of the clause of a success
pub on_ok : {T E P Q : Type 0} (r : Result T E) → (P → Q) → OnOk r P → OnOk r Q
on_ok (Ok x) f p = f p
on_ok (Err e) f p = p
