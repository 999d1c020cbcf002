-- The first refusal in a sorted list, as the code finds it.
use Rattle.std.proofs.Common.{◌≡◌, ℕ, Bool, false, cond, List, [], ◌∷◌, ◌++◌, Option, Some, Result, Ok, Err, refl, sym}
use Rattle.std.proofs.Common.{◌∙◌, ap}
use Rattle.std.specs.Prelude.{find, ◌||◌}
use Rattle.std.specs.Option.{option_map_or}
use Rattle.mud_world.specs.declared.change.Change.{Change}
use Rattle.mud_world.specs.declared.change.Deed.{Deed}
use Rattle.mud_world.specs.declared.change.Deed.TheVariants.{Dig, Make, Lock, Unlock, Move, Walk, Cost, Player, Rename}
use Rattle.mud_world.specs.declared.change.Deed.TheVariants.{Recycle, Say, Emote}
use Rattle.mud_world.specs.declared.refusal.Refusal.{Refusal}
use Rattle.mud_world.specs.declared.refusal.Refusal.TheVariants.{NotUnderstood, NoSuch, Ambiguous, WrongKind, NotHere}
use Rattle.mud_world.specs.declared.refusal.Refusal.TheVariants.{Denied, BadName, NameTaken, BadKey, KeyNesting}
use Rattle.mud_world.specs.declared.refusal.Refusal.TheVariants.{BadCost, RecursiveMove, LockedExit, LockedRoom}
use Rattle.mud_world.specs.declared.refusal.Refusal.TheVariants.{LockedThing, InUse, WorldFull, PartyBad}
use Rattle.mud_world.specs.Refusals.{lesser}
use Rattle.mud_world.specs.State.{State}
use Rattle.mud_world.specs.Legal.{fails, refusal}
use Rattle.mud_world.specs.inner.Refusals.{refusals}
use Rattle.mud_rules.specs.declared.verdict.Verdict.TheVariants.{Change as Changes, Refused}
use Rattle.mud_rules.specs.Outcome.{outcome}
use Rattle.mud_rules.specs.declared.verdict.Journey.TheVariants.{Meet}
use Rattle.mud_rules.specs.Journeys.{meeting, least_refusal, members}
use Rattle.mud_rules.specs.inner.Bars.{all_refusals, refuses, unfit}
use Rattle.mud_rules.proofs.Least.{lesser_first, find-append_miss}

-- three refusals apply only to lines
of_lines : (w : State) (p : ℕ) (deed : Deed) → let e : Change = record { actor = p; deed = deed } in
    (fails w e NotUnderstood ≡ false) × ((fails w e Ambiguous ≡ false) × (fails w e PartyBad ≡ false))
of_lines w p (Dig target doors) = (refl, (refl, refl))
of_lines w p (Make names) = (refl, (refl, refl))
of_lines w p (Lock object key) = (refl, (refl, refl))
of_lines w p (Unlock object) = (refl, (refl, refl))
of_lines w p (Move thing to) = (refl, (refl, refl))
of_lines w p (Walk exit) = (refl, (refl, refl))
of_lines w p (Cost exit cost) = (refl, (refl, refl))
of_lines w p (Player name) = (refl, (refl, refl))
of_lines w p (Rename object names) = (refl, (refl, refl))
of_lines w p (Recycle object) = (refl, (refl, refl))
of_lines w p (Say text) = (refl, (refl, refl))
of_lines w p (Emote text) = (refl, (refl, refl))

abbrev changes_alone : List Refusal
changes_alone =
    WrongKind ∷ NotHere ∷ Denied ∷ BadName ∷ NameTaken ∷ BadKey ∷ KeyNesting ∷ BadCost ∷ RecursiveMove
    ∷ LockedExit ∷ LockedRoom ∷ LockedThing ∷ InUse ∷ WorldFull ∷ []

-- so they may be in the list
all_or_some : (p : Refusal → Bool) → p NotUnderstood ≡ false → p Ambiguous ≡ false → p PartyBad ≡ false
    → find p refusals ≡ find p all_refusals
all_or_some p one three eighteen =
    sym (ap (λ b. cond b (Some NotUnderstood) (find p (NoSuch ∷ Ambiguous ∷ changes_alone ++ PartyBad ∷ []))) one
    ∙ ap (λ b. cond (p NoSuch) (Some NoSuch) (cond b (Some Ambiguous) (find p (changes_alone ++ PartyBad ∷ [])))) three
    ∙ ap (λ r. cond (p NoSuch) (Some NoSuch) r) (find-append_miss p changes_alone PartyBad eighteen))

first_of_all : (w : State) (e : Change) → refusal w e ≡ find (fails w e) all_refusals
unfolding refusal
first_of_all w e =
    let none = of_lines w e.actor e.deed in
    all_or_some (fails w e) none.0 none.1.0 none.1.1

-- the first refusal, in rising order, that is the command's own or whose condition holds
pub outcome_first : (w : State) (own : Option Refusal) (e : Change)
    → outcome w own e ≡ option_map_or Refused (find (λ f. refuses own f || fails w e f) all_refusals) (Changes e)
unfolding outcome
outcome_first w own e =
    ap (λ r. option_map_or Refused (lesser own r) (Changes e)) (first_of_all w e)
    ∙ ap (λ r. option_map_or Refused r (Changes e)) (lesser_first own (fails w e))

-- the lesser of a command's own refusal and its change's
pub outcome_is : (w : State) (own : Option Refusal) (e : Change)
    → option_map_or Refused (lesser own (refusal w e)) (Changes e) ≡ outcome w own e
unfolding outcome
outcome_is w own e = refl

-- the refusal of the party, or the lesser one of a part
pub meeting_is : (parts : List (Result ℕ Refusal))
    → option_map_or Err (lesser (unfit (members parts)) (least_refusal parts)) (Ok (Meet (members parts)))
    ≡ meeting parts
unfolding meeting
meeting_is parts = refl
