-- The parts of a meeting, one at a time.
use Rattle.std.proofs.Common.{◌≡◌, ℕ, suc, ◌+◌, ◌<◌, ◌≤◌, cond, List, ◌∷◌, length, drop, get_or, Option, Some, None}
use Rattle.std.proofs.Common.{Result, Ok, Err, refl, sym, ◌∙◌, ap, add-one, drop-cons, arith}
use Rattle.std.specs.Prelude.{nat_lt}
use Rattle.std.proofs.lemmas.Bool.{ltb-true, ltb-false, lt-ltb, le-ltb}
use Rattle.mud_world.specs.declared.refusal.Refusal.{Refusal}
use Rattle.mud_world.specs.Refusals.{number, lesser}
use Rattle.mud_rules.specs.Journeys.{least_refusal}
use Rattle.mud_rules.proofs.Least.{bool_cases}

second : (f g : Refusal) → number g < number f → lesser (Some f) (Some g) ≡ Some g
second f g lt = ap (λ b. cond b (Some g) (Some f)) (lt-ltb (number g) (number f) lt)

first : (f g : Refusal) → number f ≤ number g → lesser (Some f) (Some g) ≡ Some f
first f g le = ap (λ b. cond b (Some g) (Some f)) (le-ltb (number g) (number f) le)

-- the lesser of three refusals does not depend on the grouping
pub lesser-assoc : (a b c : Option Refusal) → lesser (lesser a b) c ≡ lesser a (lesser b c)
lesser-assoc None b c = refl
lesser-assoc (Some f) None c = refl
lesser-assoc (Some f) (Some g) None = bool_cases (nat_lt (number g) (number f))
    (λ yes. ap (λ a. lesser a None) (second f g (ltb-true (number g) (number f) yes))
    ∙ sym (second f g (ltb-true (number g) (number f) yes)))
    (λ no. ap (λ a. lesser a None) (first f g (ltb-false (number g) (number f) no))
    ∙ sym (first f g (ltb-false (number g) (number f) no)))
lesser-assoc (Some f) (Some g) (Some h) =
    bool_cases (nat_lt (number g) (number f))
    (λ yes.
    let gf = ltb-true (number g) (number f) yes in
    ap (λ a. lesser a (Some h)) (second f g gf)
    ∙ bool_cases (nat_lt (number h) (number g))
    (λ more. let hg = ltb-true (number h) (number g) more in second g h hg ∙ sym (second f h (omega (arith, hg, gf)))
    ∙ ap (lesser (Some f)) (sym (second g h hg)))
    (λ less. let hg = ltb-false (number h) (number g) less in first g h hg ∙ sym (second f g gf)
    ∙ ap (lesser (Some f)) (sym (first g h hg))))
    (λ no.
    let gf = ltb-false (number g) (number f) no in
    ap (λ a. lesser a (Some h)) (first f g gf)
    ∙ bool_cases (nat_lt (number h) (number g))
    (λ more. let hg = ltb-true (number h) (number g) more in ap (lesser (Some f)) (sym (second g h hg)))
    (λ less. let hg = ltb-false (number h) (number g) less in first f h (omega (arith, hg, gf)) ∙ sym (first f g gf)
    ∙ ap (lesser (Some f)) (sym (first g h hg))))

pub least-err : (found : List (Result ℕ Refusal)) (i : ℕ) (d : Result ℕ Refusal) (f : Refusal) (least : Option Refusal)
    → i < length found → get_or found i d ≡ Err f
    → lesser least (least_refusal (drop i found)) ≡ lesser (lesser least (Some f)) (least_refusal (drop (i + 1) found))
least-err found i d f least below is =
    ap (λ rs. lesser least (least_refusal rs)) (drop-cons found i d below)
    ∙ ap (λ r. lesser least (least_refusal (r ∷ drop (suc i) found))) is
    ∙ sym (lesser-assoc least (Some f) (least_refusal (drop (suc i) found)))
    ∙ ap (λ j. lesser (lesser least (Some f)) (least_refusal (drop j found))) (sym (add-one i))

pub least-ok : (found : List (Result ℕ Refusal)) (i : ℕ) (d : Result ℕ Refusal) (n : ℕ) → i < length found
    → get_or found i d ≡ Ok n → least_refusal (drop i found) ≡ least_refusal (drop (i + 1) found)
least-ok found i d n below is =
    ap least_refusal (drop-cons found i d below)
    ∙ ap (λ r. least_refusal (r ∷ drop (suc i) found)) is
    ∙ ap (λ j. least_refusal (drop j found)) (sym (add-one i))
