-- A change that is legal in a world is spellable.
use Rattle.std.proofs.Common.{◌≡◌, ℕ, ◌+◌, ◌≤◌, Bool, true, false, Some, None, refl, sym, ◌∙◌, ap, arith, eqb, ltb}
use Rattle.std.specs.Prelude.{not, ◌||◌, is_some}
use Rattle.std.proofs.lemmas.Bool.{eqb-true, ltb-false, true≢false}
use Rattle.mud_world.specs.State.{State, record_at, exists}
use Rattle.mud_world.specs.Sound.{IsSound}
use Rattle.mud_world.specs.Legal.{refusal, fails}
use Rattle.mud_world.specs.declared.change.Change.{Change}
use Rattle.mud_world.specs.declared.change.Target.TheVariants.{New, Old}
use Rattle.mud_world.specs.declared.change.Deed.{Deed}
use Rattle.mud_world.specs.declared.change.Deed.TheVariants.{Dig, Make, Lock, Unlock, Move, Walk, Cost, Player, Rename}
use Rattle.mud_world.specs.declared.change.Deed.TheVariants.{Recycle, Say, Emote}
use Rattle.mud_world.specs.declared.refusal.Refusal.{Refusal}
use Rattle.mud_world.specs.declared.refusal.Refusal.TheVariants.{NoSuch, WrongKind, BadCost, WorldFull}
use Rattle.mud_world.specs.declared.limits.TheConstants.{NUMBERS, MOST_COST}
use Rattle.mud_world.proofs.Records.{in_bounds, record_cases}
use Rattle.mud_world.proofs.Least.{refusals_law}
use Rattle.mud_chron.specs.declared.limits.TheConstants.{MOST_DESKS}
use Rattle.mud_chron.specs.Entry.{IsNumber, IsInRange, IsSpellable}

or_no : (x y : Bool) → (x || y) ≡ false → (x ≡ false) × (y ≡ false)
or_no true y h = absurd (true≢false h)
or_no false y h = (refl, h)

not_no : (b : Bool) → not b ≡ false → b ≡ true
not_no true h = refl
not_no false h = absurd (true≢false h)

-- the number of an object that exists
number_of : (w : State) → IsSound w → (n : ℕ) → not (exists w n) ≡ false → IsNumber n
number_of w sound n h = record_cases (record_at w n)
    (λ none. absurd (true≢false (sym (not_no (exists w n) h) ∙ ap is_some none)))
    (λ r at.
    let within = in_bounds 0 w.next n r w.objects sound.rising at in
    let limit : w.next ≤ NUMBERS = sound.limit in
    omega (arith, within.1))

-- no refusal's condition holds
none_of : (w : State) (actor : ℕ) (d : Deed) → refusal w (record { actor = actor; deed = d }) ≡ None → (f : Refusal)
    → fails w (record { actor = actor; deed = d }) f ≡ false
none_of w actor d legal = (refusals_law w (record { actor = actor; deed = d })).1.0 legal

actor_number : (w : State) → IsSound w → (actor : ℕ) (d : Deed)
    → ((f : Refusal) → fails w (record { actor = actor; deed = d }) f ≡ false) → IsNumber actor
actor_number w sound actor (Player name) h =
    let is_next : actor ≡ w.next =
    eqb-true actor w.next (not_no (eqb actor w.next) (or_no false (not (eqb actor w.next)) (h NoSuch)).1) in
    let room : w.next + 1 ≤ NUMBERS = ltb-false NUMBERS (w.next + 1) (h WorldFull) in
    omega arith
actor_number w sound actor (Dig target doors) h = number_of w sound actor (or_no (not (exists w actor)) _ (h NoSuch)).0
actor_number w sound actor (Make names) h = number_of w sound actor (or_no (not (exists w actor)) _ (h NoSuch)).0
actor_number w sound actor (Lock object key) h = number_of w sound actor (or_no (not (exists w actor)) _ (h NoSuch)).0
actor_number w sound actor (Unlock object) h = number_of w sound actor (or_no (not (exists w actor)) _ (h NoSuch)).0
actor_number w sound actor (Move thing to) h = number_of w sound actor (or_no (not (exists w actor)) _ (h NoSuch)).0
actor_number w sound actor (Walk exit) h = number_of w sound actor (or_no (not (exists w actor)) _ (h NoSuch)).0
actor_number w sound actor (Cost exit cost) h = number_of w sound actor (or_no (not (exists w actor)) _ (h NoSuch)).0
actor_number w sound actor (Rename object names) h =
    number_of w sound actor (or_no (not (exists w actor)) _ (h NoSuch)).0
actor_number w sound actor (Recycle object) h = number_of w sound actor (or_no (not (exists w actor)) _ (h NoSuch)).0
actor_number w sound actor (Say text) h = number_of w sound actor (or_no (not (exists w actor)) _ (h NoSuch)).0
actor_number w sound actor (Emote text) h = number_of w sound actor (or_no (not (exists w actor)) _ (h NoSuch)).0

in_range : (w : State) → IsSound w → (actor : ℕ) (d : Deed)
    → ((f : Refusal) → fails w (record { actor = actor; deed = d }) f ≡ false) → IsInRange d
in_range w sound actor (Dig (New names) doors) h = tt
in_range w sound actor (Dig (Old room) None) h = absurd (true≢false (or_no _ true (or_no _ _ (h WrongKind)).1).1)
in_range w sound actor (Dig (Old room) (Some doors)) h =
    number_of w sound room (or_no (not (exists w actor)) (not (exists w room)) (h NoSuch)).1
in_range w sound actor (Make names) h = tt
in_range w sound actor (Player name) h = tt
in_range w sound actor (Lock object key) h =
    number_of w sound object (or_no (not (exists w actor)) (not (exists w object)) (h NoSuch)).1
in_range w sound actor (Unlock object) h =
    number_of w sound object (or_no (not (exists w actor)) (not (exists w object)) (h NoSuch)).1
in_range w sound actor (Move thing to) h =
    let both =
    or_no (not (exists w thing)) (not (exists w to))
    (or_no (not (exists w actor)) (not (exists w thing) || not (exists w to)) (h NoSuch)).1 in
    (number_of w sound thing both.0, number_of w sound to both.1)
in_range w sound actor (Walk exit) h =
    number_of w sound exit (or_no (not (exists w actor)) (not (exists w exit)) (h NoSuch)).1
in_range w sound actor (Cost exit cost) h = (
  number_of w sound exit (or_no (not (exists w actor)) (not (exists w exit)) (h NoSuch)).1,
  ltb-false MOST_COST cost
      (or_no false (ltb MOST_COST cost) (h BadCost)).1,
)
in_range w sound actor (Rename object names) h =
    number_of w sound object (or_no (not (exists w actor)) (not (exists w object)) (h NoSuch)).1
in_range w sound actor (Recycle object) h =
    number_of w sound object (or_no (not (exists w actor)) (not (exists w object)) (h NoSuch)).1
in_range w sound actor (Say text) h = tt
in_range w sound actor (Emote text) h = tt

-- a legal change of a sound world is spellable for every desk
pub legal_is_spellable : (w : State) (desk : ℕ) (change : Change) → IsSound w → refusal w change ≡ None → 1 ≤ desk
    → desk ≤ MOST_DESKS → IsSpellable desk change
legal_is_spellable w desk change sound legal from to =
    let h = none_of w change.actor change.deed legal in
    record {
      desk_from =
          from;
      desk_to =
          to;
      actor =
          actor_number w sound change.actor change.deed h;
      deed = in_range w sound change.actor change.deed h;
    }
