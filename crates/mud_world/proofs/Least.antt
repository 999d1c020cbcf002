-- The refusal of a change is the least one whose condition holds.
use Rattle.std.proofs.Common.{◌≡◌, ℕ, ◌≤◌, Bool, true, false, cond, not, ◌&&◌, ◌||◌, List, [], ◌∷◌, Option, Some, None}
use Rattle.std.proofs.Common.{refl, sym, ◌∙◌, ap, arith, ⊎_elim, lit≤}
use Rattle.std.specs.Prelude.{nat_eq, find, ◌↔◌}
use Rattle.std.specs.List.{list_any}
use Rattle.std.proofs.lemmas.Bool.{or_cases, eqb-true, true≢false}
use Rattle.mud_world.specs.declared.change.Change.{Change}
use Rattle.mud_world.specs.declared.change.Deed.{Deed}
use Rattle.mud_world.specs.declared.change.Deed.TheVariants.{Dig}
use Rattle.mud_world.specs.declared.refusal.Refusal.{Refusal}
use Rattle.mud_world.specs.declared.refusal.Refusal.TheVariants.{NotUnderstood, NoSuch, Ambiguous, WrongKind, NotHere}
use Rattle.mud_world.specs.declared.refusal.Refusal.TheVariants.{Denied, BadName, NameTaken, BadKey, KeyNesting}
use Rattle.mud_world.specs.declared.refusal.Refusal.TheVariants.{BadCost, RecursiveMove, LockedExit, LockedRoom}
use Rattle.mud_world.specs.declared.refusal.Refusal.TheVariants.{LockedThing, InUse, WorldFull, PartyBad}
use Rattle.mud_world.specs.State.{State}
use Rattle.mud_world.specs.Refusals.{number}
use Rattle.mud_world.specs.Legal.{is_arrival, deed_fails, fails, refusal}
use Rattle.mud_world.specs.inner.Refusals.{refusals}
use Rattle.mud_world.specs.Laws.{IsLeastRefusal}
use Rattle.mud_world.proofs.Records.{bool_cases}

refusal_cases : {P : Type 0} (v : Option Refusal) → (v ≡ None → P) → ((f : Refusal) → v ≡ Some f → P) → P
refusal_cases None f g = f refl
refusal_cases (Some r) f g = g r refl

-- ---- the number of a refusal identifies it
abbrev every : List Refusal
every =
    NotUnderstood ∷ NoSuch ∷ Ambiguous ∷ WrongKind ∷ NotHere ∷ Denied ∷ BadName ∷ NameTaken ∷ BadKey ∷ KeyNesting
    ∷ BadCost ∷ RecursiveMove
    ∷ LockedExit ∷ LockedRoom ∷ LockedThing ∷ InUse ∷ WorldFull ∷ PartyBad ∷ []

abbrev named : ℕ → Option Refusal
named n = find (λ f. nat_eq n (number f)) every

named-number : (f : Refusal) → named (number f) ≡ Some f
named-number NotUnderstood = refl
named-number NoSuch = refl
named-number Ambiguous = refl
named-number WrongKind = refl
named-number NotHere = refl
named-number Denied = refl
named-number BadName = refl
named-number NameTaken = refl
named-number BadKey = refl
named-number KeyNesting = refl
named-number BadCost = refl
named-number RecursiveMove = refl
named-number LockedExit = refl
named-number LockedRoom = refl
named-number LockedThing = refl
named-number InUse = refl
named-number WorldFull = refl
named-number PartyBad = refl

number-same : (f g : Refusal) → number f ≡ number g → f ≡ g
number-same f g same = let e : Some f ≡ Some g = sym (named-number f) ∙ ap named same ∙ named-number g in cc

-- ---- the first that passes in a list whose numbers do not fall
abbrev Rise : ℕ → List Refusal → Type 0
Rise low [] = Unit {0}
Rise low (f ∷ fs) = (low ≤ number f) × Rise (number f) fs

abbrev is_among : Refusal → List Refusal → Bool
is_among g fs = list_any (λ f. nat_eq (number f) (number g)) fs

low-among : (low : ℕ) (fs : List Refusal) → Rise low fs → (g : Refusal) → is_among g fs ≡ true → low ≤ number g
low-among low [] rise g among = absurd (true≢false (sym among))
low-among low (f ∷ fs) rise g among =
    let first = rise.0 in
    ⊎_elim
    (λ (here : nat_eq (number f) (number g) ≡ true). let same = eqb-true (number f) (number g) here in
    omega (arith, first, same))
    (λ later. let rest = low-among (number f) fs rise.1 g later in omega (arith, first, rest))
    (or_cases (nat_eq (number f) (number g)) (is_among g fs) among)

first-least : (p : Refusal → Bool) (low : ℕ) (fs : List Refusal) → Rise low fs → (f : Refusal) → find p fs ≡ Some f →
    (p f ≡ true) × ((g : Refusal) → is_among g fs ≡ true → p g ≡ true → number f ≤ number g)
first-least p low [] rise f found = absurd (let bad : None ≡ Some f = found in cc)
first-least p low (h ∷ fs) rise f found =
    bool_cases (p h)
    (λ e.
    let is : Some h ≡ Some f = sym (ap (λ b. cond b (Some h) (find p fs)) e) ∙ found in
    let same : h ≡ f = cc in (
      sym (ap p same) ∙ e,
      λ g among holds.
          let le = low-among (number h) (h ∷ fs) (omega arith, rise.1) g among in
          let at = ap number same in
          omega (arith, le, at),
    ))
    (λ e.
    let rest = first-least p (number h) fs rise.1 f (sym (ap (λ b. cond b (Some h) (find p fs)) e) ∙ found) in (
      rest.0,
      λ g among holds.
          ⊎_elim
          (λ (here : nat_eq (number h) (number g) ≡ true).
          let same = number-same h g (eqb-true (number h) (number g) here) in
          absurd (true≢false (sym holds ∙ sym (ap p same) ∙ e)))
          (λ later. rest.1 g later holds)
          (or_cases (nat_eq (number h) (number g)) (is_among g fs) among),
    ))

none-passes : (p : Refusal → Bool) (fs : List Refusal) → find p fs ≡ None → (g : Refusal) → is_among g fs ≡ true
    → p g ≡ false
none-passes p [] none g among = absurd (true≢false (sym among))
none-passes p (h ∷ fs) none g among =
    bool_cases (p h)
    (λ e. let bad : Some h ≡ None = sym (ap (λ b. cond b (Some h) (find p fs)) e) ∙ none in absurd (cc))
    (λ e.
    ⊎_elim
    (λ (here : nat_eq (number h) (number g) ≡ true). sym (ap p (number-same h g (eqb-true (number h) (number g) here)))
    ∙ e)
    (λ later. none-passes p fs (sym (ap (λ b. cond b (Some h) (find p fs)) e) ∙ none) g later)
    (or_cases (nat_eq (number h) (number g)) (is_among g fs) among))

none-found : (p : Refusal → Bool) (fs : List Refusal) → ((g : Refusal) → p g ≡ false) → find p fs ≡ None
none-found p [] none = refl
none-found p (h ∷ fs) none = ap (λ b. cond b (Some h) (find p fs)) (none h) ∙ none-found p fs none

rise : Rise 0 refusals
rise = (
  lit≤ tt,
  (
    lit≤ tt,
    (
      lit≤ tt,
      (
        lit≤ tt,
        (
          lit≤ tt,
          (
            lit≤ tt,
            (lit≤ tt, (lit≤ tt, (lit≤ tt, (lit≤ tt, (lit≤ tt, (lit≤ tt, (lit≤ tt, (lit≤ tt, (lit≤ tt, tt))))))))),
          ),
        ),
      ),
    ),
  ),
)

-- ---- refusals of lines only do not refuse changes
not_understood : (w : State) (a : ℕ) (d : Deed) → deed_fails w a d NotUnderstood ≡ false
not_understood w a (Dig target doors) = refl
not_understood w a d = refl

ambiguous : (w : State) (a : ℕ) (d : Deed) → deed_fails w a d Ambiguous ≡ false
ambiguous w a (Dig target doors) = refl
ambiguous w a d = refl

party_bad : (w : State) (a : ℕ) (d : Deed) → deed_fails w a d PartyBad ≡ false
party_bad w a (Dig target doors) = refl
party_bad w a d = refl

-- neither the actor nor the deed is refused
no_failing : (b c : Bool) → ((not b && false) || c) ≡ true → c ≡ false → ⊥
no_failing true c holds none = true≢false (sym holds ∙ none)
no_failing false c holds none = true≢false (sym holds ∙ none)

among : (w : State) (e : Change) (g : Refusal) → fails w e g ≡ true → is_among g refusals ≡ true
among w e NotUnderstood holds =
    absurd (no_failing (is_arrival e.deed) (deed_fails w e.actor e.deed NotUnderstood) holds
    (not_understood w e.actor e.deed))
among w e Ambiguous holds =
    absurd (no_failing (is_arrival e.deed) (deed_fails w e.actor e.deed Ambiguous) holds (ambiguous w e.actor e.deed))
among w e PartyBad holds =
    absurd (no_failing (is_arrival e.deed) (deed_fails w e.actor e.deed PartyBad) holds (party_bad w e.actor e.deed))
among w e g holds = refl

least : (w : State) (e : Change) (f : Refusal) → refusal w e ≡ Some f → IsLeastRefusal w e f
unfolding refusal
least w e f found =
    let it = first-least (fails w e) 0 refusals rise f found in
    record { holds = it.0; least = λ g holds. it.1 g (among w e g holds) holds }

none : (w : State) (e : Change) → refusal w e ≡ None → (f : Refusal) → fails w e f ≡ false
unfolding refusal
none w e gone f =
    bool_cases (fails w e f)
    (λ holds. absurd (true≢false (sym holds ∙ none-passes (fails w e) refusals gone f (among w e f holds))))
    (λ fails. fails)

none-back : (w : State) (e : Change) → ((f : Refusal) → fails w e f ≡ false) → refusal w e ≡ None
unfolding refusal
none-back w e nothing = none-found (fails w e) refusals nothing

least-back : (w : State) (e : Change) (f : Refusal) → IsLeastRefusal w e f → refusal w e ≡ Some f
least-back w e f is =
    refusal_cases (refusal w e)
    (λ gone. absurd (true≢false (sym is.holds ∙ none w e gone f)))
    (λ g found.
    let other = least w e g found in
    let up = is.least g other.holds in
    let down = other.least f is.holds in
    found ∙ ap (λ v. Some v) (number-same g f (omega (arith, up, down))))

pub refusals_law : (w : State) (e : Change)
    → ((f : Refusal) → (refusal w e ≡ Some f) ↔ IsLeastRefusal w e f)
    × ((refusal w e ≡ None) ↔ ((f : Refusal) → fails w e f ≡ false))
refusals_law = λ w e. (λ f. (least w e f, least-back w e f), (none w e, none-back w e))
