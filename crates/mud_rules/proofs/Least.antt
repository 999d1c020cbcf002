-- The lesser of a refusal and of the first one in a list that is sorted by number.
use Rattle.std.proofs.Common.{◌≡◌, ◌<◌, Bool, true, false, cond, List, [], ◌∷◌, ◌++◌, Option, Some, None, refl, sym}
use Rattle.std.proofs.Common.{◌∙◌, ap, subst, arith}
use Rattle.std.specs.Prelude.{find, nat_eq, nat_lt, not, ◌&&◌, ◌||◌}
use Rattle.std.proofs.lemmas.Bool.{and_parts, not-true, ltb-true, eq-eqb, ne_eqb}
use Rattle.mud_world.specs.declared.refusal.Refusal.{Refusal}
use Rattle.mud_world.specs.declared.refusal.Refusal.TheVariants.{NotUnderstood, NoSuch, Ambiguous, WrongKind, NotHere}
use Rattle.mud_world.specs.declared.refusal.Refusal.TheVariants.{Denied, BadName, NameTaken, BadKey, KeyNesting}
use Rattle.mud_world.specs.declared.refusal.Refusal.TheVariants.{BadCost, RecursiveMove, LockedExit, LockedRoom}
use Rattle.mud_world.specs.declared.refusal.Refusal.TheVariants.{LockedThing, InUse, WorldFull, PartyBad}
use Rattle.mud_world.specs.Refusals.{number, lesser}
use Rattle.mud_rules.specs.inner.Bars.{all_refusals, refuses}

pub bool_cases : {P : Type 0} (b : Bool) → (b ≡ true → P) → (b ≡ false → P) → P
bool_cases true f g = f refl
bool_cases false f g = g refl

-- no number of the list is below the own one
abbrev pub is_late : Refusal → List Refusal → Bool
is_late own [] = true
is_late own (f ∷ fs) = not (nat_lt (number f) (number own)) && is_late own fs

pub lesser-late : (own : Refusal) (p : Refusal → Bool) (fs : List Refusal) → is_late own fs ≡ true
    → lesser (Some own) (find p fs) ≡ Some own
lesser-late own p [] late = refl
lesser-late own p (f ∷ fs) late =
    let parts = and_parts (not (nat_lt (number f) (number own))) (is_late own fs) late in
    bool_cases (p f)
    (λ yes. ap (λ b. lesser (Some own) (cond b (Some f) (find p fs))) yes
    ∙ ap (λ b. cond b (Some f) (Some own)) (not-true (nat_lt (number f) (number own)) parts.0))
    (λ no. ap (λ b. lesser (Some own) (cond b (Some f) (find p fs))) no ∙ lesser-late own p fs parts.1)

-- the tests agree on these refusals
abbrev pub Agree : (Refusal → Bool) → (Refusal → Bool) → List Refusal → Type 0
Agree p q [] = Unit {0}
Agree p q (f ∷ fs) = (p f ≡ q f) × Agree p q fs

-- two tests that agree on the refusals before the own one
pub lesser-agree : (own : Refusal) (p q : Refusal → Bool) (before behind : List Refusal) → Agree p q before
    → is_late own behind ≡ true
    → lesser (Some own) (find p (before ++ behind)) ≡ lesser (Some own) (find q (before ++ behind))
lesser-agree own p q [] behind same late = lesser-late own p behind late ∙ sym (lesser-late own q behind late)
lesser-agree own p q (f ∷ before) behind same late =
    bool_cases (q f)
    (λ yes.
    ap (λ b. lesser (Some own) (cond b (Some f) (find p (before ++ behind)))) (same.0 ∙ yes)
    ∙ sym (ap (λ b. lesser (Some own) (cond b (Some f) (find q (before ++ behind)))) yes))
    (λ no.
    ap (λ b. lesser (Some own) (cond b (Some f) (find p (before ++ behind)))) (same.0 ∙ no)
    ∙ lesser-agree own p q before behind same.1 late
    ∙ sym (ap (λ b. lesser (Some own) (cond b (Some f) (find q (before ++ behind)))) no))

abbrev pub Either : Bool → Type 0 → Type 0 → Type 0
Either true A B = A
Either false A B = B

-- the own refusal is in the list; those before it have lower numbers, and none after it has
abbrev pub InOrder : Refusal → List Refusal → Type 0
InOrder own [] = ⊥
InOrder own (f ∷ fs) = Either (nat_lt (number f) (number own)) (InOrder own fs) ((f ≡ own) × (is_late own fs ≡ true))

-- the own refusal as an element of the list
pub find-own : (own : Refusal) (p : Refusal → Bool) (fs : List Refusal) → InOrder own fs
    → lesser (Some own) (find p fs) ≡ find (λ f. nat_eq (number own) (number f) || p f) fs
find-own own p [] order = absurd order
find-own own p (f ∷ fs) order =
    let q : Refusal → Bool = λ g. nat_eq (number own) (number g) || p g in
    bool_cases (nat_lt (number f) (number own))
    (λ before.
    let rest = find-own own p fs
    (subst (λ b. Either b (InOrder own fs) ((f ≡ own) × (is_late own fs ≡ true))) before order) in
    let below : number f < number own = ltb-true (number f) (number own) before in
    let other : nat_eq (number own) (number f) ≡ false =
    ne_eqb (number own) (number f) (λ same. absurd (omega (arith, below, same))) in
    bool_cases (p f)
    (λ yes.
    ap (λ b. lesser (Some own) (cond b (Some f) (find p fs))) yes
    ∙ ap (λ b. cond b (Some f) (Some own)) before
    ∙ sym (ap (λ b. cond (b || p f) (Some f) (find q fs)) other ∙ ap (λ b. cond b (Some f) (find q fs)) yes))
    (λ no.
    ap (λ b. lesser (Some own) (cond b (Some f) (find p fs))) no
    ∙ rest
    ∙ sym (ap (λ b. cond (b || p f) (Some f) (find q fs)) other ∙ ap (λ b. cond b (Some f) (find q fs)) no)))
    (λ here.
    let at = subst (λ b. Either b (InOrder own fs) ((f ≡ own) × (is_late own fs ≡ true))) here order in
    let same : nat_eq (number own) (number f) ≡ true = eq-eqb (number own) (number f) (ap number (sym at.0)) in
    bool_cases (p f)
    (λ yes.
    ap (λ b. lesser (Some own) (cond b (Some f) (find p fs))) yes
    ∙ ap (λ b. cond b (Some f) (Some own)) here
    ∙ sym (ap (λ b. cond (b || p f) (Some f) (find q fs)) same ∙ ap Some at.0))
    (λ no.
    ap (λ b. lesser (Some own) (cond b (Some f) (find p fs))) no
    ∙ lesser-late own p fs at.1
    ∙ sym (ap (λ b. cond (b || p f) (Some f) (find q fs)) same ∙ ap Some at.0)))

-- one more refusal that does not pass
pub find-append_miss : (p : Refusal → Bool) (fs : List Refusal) (f : Refusal) → p f ≡ false
    → find p (fs ++ f ∷ []) ≡ find p fs
find-append_miss p [] f miss = ap (λ b. cond b (Some f) None) miss
find-append_miss p (g ∷ fs) f miss = ap (λ r. cond (p g) (Some g) r) (find-append_miss p fs f miss)

-- each refusal is in the list of all
pub in_order : (own : Refusal) → InOrder own all_refusals
in_order NotUnderstood = (refl, refl)
in_order NoSuch = (refl, refl)
in_order Ambiguous = (refl, refl)
in_order WrongKind = (refl, refl)
in_order NotHere = (refl, refl)
in_order Denied = (refl, refl)
in_order BadName = (refl, refl)
in_order NameTaken = (refl, refl)
in_order BadKey = (refl, refl)
in_order KeyNesting = (refl, refl)
in_order BadCost = (refl, refl)
in_order RecursiveMove = (refl, refl)
in_order LockedExit = (refl, refl)
in_order LockedRoom = (refl, refl)
in_order LockedThing = (refl, refl)
in_order InUse = (refl, refl)
in_order WorldFull = (refl, refl)
in_order PartyBad = (refl, refl)

-- the lesser of an own refusal and of the first in the list
pub lesser_first : (own : Option Refusal) (p : Refusal → Bool)
    → lesser own (find p all_refusals) ≡ find (λ f. refuses own f || p f) all_refusals
lesser_first None p = refl
lesser_first (Some own) p = find-own own p all_refusals (in_order own)
