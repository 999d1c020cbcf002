-- Two worlds with the same object at each number.
use Rattle.std.proofs.Common.{◌≡◌, ⊎_elim, ℕ, ◌+◌, ◌<◌, false, cond, List, [], ◌∷◌, Option}
use Rattle.std.proofs.Common.{Some, None, refl, sym, ◌∙◌, ap, subst, arith}
use Rattle.std.specs.Prelude.{nat_eq}
use Rattle.std.specs.Map.{lookup}
use Rattle.std.proofs.lemmas.Bool.{eqb-true, cases_order}
use Rattle.mud_world.proofs.Records.{bool_cases, in_bounds}
use Rattle.mud_world.proofs.Removing.{lookup-below}
use Rattle.mud_world.specs.declared.record.Record.{Record}
use Rattle.mud_world.specs.State.{State, record_at}
use Rattle.mud_world.specs.Sound.{IsSound, IsRising}
use Rattle.mud_compact.proofs.Rows.{found-first}

no-record : (r : Record) → ◌≡◌ {A = Option Record} (Some r) None → ⊥
no-record r e = absurd (cc)

one-record : (r s : Record) → ◌≡◌ {A = Option Record} (Some r) (Some s) → r ≡ s
one-record r s e = cc

-- the object of a number after the first
behind : (e : ℕ × Record) (es : List (ℕ × Record)) (n : ℕ) → nat_eq n e.0 ≡ false
    → lookup (nat_eq n) es ≡ lookup (nat_eq n) (e ∷ es)
behind e es n past = sym (ap (λ b. cond b (Some e.1) (lookup (nat_eq n) es)) past)

same_objects : (low low' high : ℕ) (es fs : List (ℕ × Record)) → IsRising low es high → IsRising low' fs high
    → ((n : ℕ) → n < high → lookup (nat_eq n) es ≡ lookup (nat_eq n) fs) → es ≡ fs
same_objects low low' high [] [] rises rises' same = refl
same_objects low low' high [] (f ∷ fs) rises rises' same =
    let below = (in_bounds low' high f.0 f.1 (f ∷ fs) rises' (found-first f fs)).1 in
    absurd (no-record f.1 (sym (same f.0 below ∙ found-first f fs)))
same_objects low low' high (e ∷ es) [] rises rises' same =
    let below = (in_bounds low high e.0 e.1 (e ∷ es) rises (found-first e es)).1 in
    absurd (no-record e.1 (sym (found-first e es) ∙ same e.0 below))
same_objects low low' high (e ∷ es) (f ∷ fs) rises rises' same =
    let below = (in_bounds low high e.0 e.1 (e ∷ es) rises (found-first e es)).1 in
    let below' = (in_bounds low' high f.0 f.1 (f ∷ fs) rises' (found-first f fs)).1 in
    ⊎_elim
    (λ (number : e.0 ≡ f.0).
    let kept : e.1 ≡ f.1 = one-record e.1 f.1 (sym (found-first e es) ∙ same e.0 below
    ∙ ap (λ n. lookup (nat_eq n) (f ∷ fs)) number ∙ found-first f fs) in
    let one : e ≡ f = λ i. (number i, kept i) in
    let rest : es ≡ fs = same_objects (e.0 + 1) (f.0 + 1) high es fs rises.1 rises'.1
    (λ n less. bool_cases (nat_eq n e.0)
    (λ here.
    let at = eqb-true n e.0 here in
    lookup-below n (e.0 + 1) high es rises.1 (omega (arith, at))
    ∙ sym (lookup-below n (f.0 + 1) high fs rises'.1 (omega (arith, at, number))))
    (λ past. behind e es n past ∙ same n less ∙ sym (behind f fs n (ap (nat_eq n) (sym number) ∙ past)))) in
    λ i. one i ∷ rest i)
    (λ other. ⊎_elim
    (λ (less : e.0 < f.0).
    absurd (no-record e.1 (sym (found-first e es) ∙ same e.0 below
    ∙ lookup-below e.0 f.0 high (f ∷ fs) (omega arith, rises'.1) less)))
    (λ (less : f.0 < e.0).
    absurd (no-record f.1 (sym (found-first f fs) ∙ sym (same f.0 below')
    ∙ lookup-below f.0 e.0 high (e ∷ es) (omega arith, rises.1) less)))
    other)
    (cases_order e.0 f.0)

-- worlds with the same next number, and the same object at each number below it
pub same_worlds : (w v : State) → IsSound w → IsSound v → w.next ≡ v.next
    → ((n : ℕ) → record_at w n ≡ record_at v n) → w ≡ v
same_worlds w v sound sound' next same =
    let rises' : IsRising 0 v.objects w.next = subst (λ n. IsRising 0 v.objects n) (sym next) sound'.rising in
    let objects = same_objects 0 0 w.next w.objects v.objects sound.rising rises' (λ n less. same n) in
    λ i. record { objects = objects i; next = next i }
