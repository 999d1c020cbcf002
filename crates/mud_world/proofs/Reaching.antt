-- The way up from a thing to what an actor reaches.
use Rattle.std.proofs.Common.{◌≡◌, ◌≢◌, ℕ, zero, suc, ◌<◌, ◌≤◌, Bool, true, false, ◌&&◌, ◌||◌, ◌⊎◌, inl, inr, ⊎_elim}
use Rattle.std.proofs.Common.{Option, Some, None, refl, sym, ◌∙◌, ap, subst, arith}
use Rattle.std.specs.Prelude.{nat_eq, IsTrue, ◌↔◌}
use Rattle.std.specs.Option.{option_map_or, option_and_then}
use Rattle.std.proofs.lemmas.Bool.{ne_eqb, eq-eqb, eqb-true, or_left, or_right, or_cases, and_parts, and_from, cases_lt}
use Rattle.std.proofs.lemmas.Bool.{true≢false}
use Rattle.mud_world.specs.Kinds.{kind_place}
use Rattle.mud_world.specs.State.{State, record_at, is_number, place_of, follow, is_thing}
use Rattle.mud_world.specs.Sound.{IsSound}
use Rattle.mud_world.specs.Reach.{InReach, in_reach}
use Rattle.mud_world.specs.inner.Reach.{arrives}
use Rattle.mud_world.proofs.Records.{record_cases, in_bounds}
use Rattle.mud_world.proofs.Places.{option_cases, follow_by, ends_by-bound}
use Rattle.mud_world.proofs.Containing.{follow-past}
use Rattle.mud_world.proofs.Moving.{place-below}

abbrev at_place : State → ℕ → ℕ → Bool → ℕ → Bool
at_place w actor p more x = nat_eq p actor || is_number p (place_of w actor) || (is_thing w p && more)

arrives_by : (w : State) (m actor o p : ℕ) → place_of w o ≡ Some p
    → arrives w (suc m) actor o ≡ at_place w actor p (arrives w m actor p) 0
arrives_by w m actor o p at = ap (λ v. option_map_or (λ p. at_place w actor p (arrives w m actor p) 0) v false) at

pub arrives-none : (w : State) (m actor o : ℕ) → place_of w o ≡ None → arrives w (suc m) actor o ≡ false
arrives-none w m actor o at = ap (λ v. option_map_or (λ p. at_place w actor p (arrives w m actor p) 0) v false) at

pub arrives-actor : (w : State) (m actor o p : ℕ) → place_of w o ≡ Some p → p ≡ actor → arrives w (suc m) actor o ≡ true
arrives-actor w m actor o p at same = arrives_by w m actor o p at
    ∙ ap (λ b. b || is_number p (place_of w actor) || (is_thing w p && arrives w m actor p)) (eq-eqb p actor same)

pub arrives-room : (w : State) (m actor o p : ℕ) → place_of w o ≡ Some p → is_number p (place_of w actor) ≡ true
    → arrives w (suc m) actor o ≡ true
arrives-room w m actor o p at here = arrives_by w m actor o p at ∙ or_left _ _ (or_right (nat_eq p actor) _ here)

pub arrives-on : (w : State) (m actor o p : ℕ) (thing : Bool) → place_of w o ≡ Some p → p ≢ actor
    → is_number p (place_of w actor) ≡ false → is_thing w p ≡ thing
    → arrives w (suc m) actor o ≡ (thing && arrives w m actor p)
arrives-on w m actor o p thing at apart away is =
    arrives_by w m actor o p at
    ∙ ap (λ b. b || is_number p (place_of w actor) || (is_thing w p && arrives w m actor p)) (ne_eqb p actor apart)
    ∙ ap (λ b. b || (is_thing w p && arrives w m actor p)) away
    ∙ ap (λ b. b && arrives w m actor p) is

-- ---- the test agrees with the relation
is_number-true : (n : ℕ) (v : Option ℕ) → is_number n v ≡ true → v ≡ Some n
is_number-true n None is = absurd (true≢false (sym is))
is_number-true n (Some m) is = ap (λ x. Some x) (sym (eqb-true n m is))

is_number-from : (n : ℕ) (v : Option ℕ) → v ≡ Some n → is_number n v ≡ true
is_number-from n v is = ap (is_number n) is ∙ eq-eqb n n refl

-- it arrives in one step
at_once : (w : State) (actor o p : ℕ) → place_of w o ≡ Some p
    → (nat_eq p actor || is_number p (place_of w actor)) ≡ true → InReach w actor o
at_once w actor o p at near = record {
  passed = 0;
  last = p;
  follows = follow_by w 0 o (Some p) at;
  here = ⊎_elim (λ is. inl (eqb-true p actor is)) (λ is. inr (is_number-true p (place_of w actor) is))
      (or_cases _ _ near);
  things = λ k q lt is. absurd (omega arith);
}

-- it arrives after one more thing
past_thing : (w : State) (actor o p : ℕ) → place_of w o ≡ Some p → IsTrue (is_thing w p) → InReach w actor p
    → InReach w actor o
past_thing w actor o p at thing rest = record {
  passed = suc rest.passed;
  last = rest.last;
  follows = follow_by w (suc rest.passed) o (Some p) at ∙ rest.follows;
  here = rest.here;
  things = things_at;
}
  where
    things_at : (k q : ℕ) → k < suc rest.passed → follow w (suc k) o ≡ Some q → IsTrue (is_thing w q)
    things_at zero q lt is =
        let same : Some p ≡ Some q = sym (follow_by w 0 o (Some p) at) ∙ is in
        let here : p ≡ q = cc in
        subst (λ (v : ℕ). IsTrue (is_thing w v)) here thing
    things_at (suc k) q lt is = rest.things k q (omega arith) (sym (follow_by w (suc k) o (Some p) at) ∙ is)

arrives-true : (w : State) (n actor o : ℕ) → arrives w n actor o ≡ true → InReach w actor o
arrives-true w zero actor o holds = absurd (true≢false (sym holds))
arrives-true w (suc n) actor o holds =
    option_cases (place_of w o)
    (λ e. absurd (true≢false (sym holds ∙ arrives-none w n actor o e)))
    (λ p e.
    ⊎_elim
    (λ near. at_once w actor o p e near)
    (λ on. let parts = and_parts (is_thing w p) (arrives w n actor p) on in
    past_thing w actor o p e parts.0 (arrives-true w n actor p parts.1))
    (or_cases (nat_eq p actor || is_number p (place_of w actor)) (is_thing w p && arrives w n actor p)
    (sym (arrives_by w n actor o p e) ∙ holds)))

arrives-from : (w : State) (n passed actor o last : ℕ) → passed < n → follow w (suc passed) o ≡ Some last
    → (last ≡ actor) ⊎ (place_of w actor ≡ Some last) →
    ((k p : ℕ) → k < passed → follow w (suc k) o ≡ Some p → IsTrue (is_thing w p)) → arrives w n actor o ≡ true
arrives-from w zero passed actor o last lt at here things = absurd (omega arith)
arrives-from w (suc n) zero actor o last lt at here things =
    option_cases (place_of w o)
    (λ e. let bad : None ≡ Some last = sym (follow_by w 0 o None e) ∙ at in absurd (cc))
    (λ p e.
    let found : Some p ≡ Some last = sym (follow_by w 0 o (Some p) e) ∙ at in
    let same : p ≡ last = cc in
    ⊎_elim
    (λ (is : last ≡ actor). arrives-actor w n actor o p e (same ∙ is))
    (λ is. arrives-room w n actor o p e (is_number-from p (place_of w actor) (is ∙ ap (λ x. Some x) (sym same))))
    here)
arrives-from w (suc n) (suc passed) actor o last lt at here things =
    option_cases (place_of w o)
    (λ e. let bad : None ≡ Some last = sym (follow_by w (suc passed) o None e) ∙ at in absurd (cc))
    (λ p e.
    let rest =
    arrives-from w n passed actor p last (omega arith) (sym (follow_by w (suc passed) o (Some p) e) ∙ at) here
    (λ k q below is. things (suc k) q (omega arith) (follow_by w (suc k) o (Some p) e ∙ is)) in
    arrives_by w n actor o p e
    ∙ or_right (nat_eq p actor || is_number p (place_of w actor)) _
    (and_from _ _ (things 0 p (omega arith) (follow_by w 0 o (Some p) e)) rest))

pub in_reach-InReach : (w : State) → IsSound w → (actor o : ℕ) → IsTrue (in_reach w actor o) ↔ InReach w actor o
in_reach-InReach w sound actor o = (
  λ holds. arrives-true w w.next actor o holds,
  λ reach.
      let low : o < w.next =
      record_cases (record_at w o)
      (λ e. let bad : None ≡ Some reach.last =
      sym (follow_by w reach.passed o None (ap (option_and_then (λ r. kind_place r.kind)) e))
      ∙ reach.follows in absurd (cc))
      (λ r e. (in_bounds 0 w.next o r w.objects sound.rising e).1) in
      let ends = ends_by-bound w w.next (place-below w sound) sound.no_circle o low in
      ⊎_elim
      (λ (lt : reach.passed < w.next). arrives-from w w.next reach.passed actor o reach.last lt reach.follows reach.here
      reach.things)
      (λ (le : w.next ≤ reach.passed).
      let bad : None ≡ Some reach.last = sym (follow-past w w.next (suc reach.passed) o (omega arith) ends)
      ∙ reach.follows in absurd (cc))
      (cases_lt reach.passed w.next),
)
