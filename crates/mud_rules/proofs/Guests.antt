-- Questions of guests.
use Rattle.std.proofs.Common.{◌≡◌, ℕ, Bool, true, false, List, Option, Some, None, subst}
use Rattle.std.specs.Prelude.{not}
use Rattle.std.specs.Option.{option_map_or}
use Rattle.mud_key.specs.Finds.{name_in}
use Rattle.mud_words.specs.Line.{Line}
use Rattle.mud_world.specs.State.{State, named_player}
use Rattle.mud_world.specs.declared.refusal.Refusal.{Refusal}
use Rattle.mud_world.specs.declared.refusal.Refusal.TheVariants.{BadName}
use Rattle.mud_world.specs.Legal.{refusal}
use Rattle.mud_world.specs.Refusals.{lesser}
use Rattle.mud_world.specs.declared.change.Change.{Change}
use Rattle.mud_rules.specs.declared.verb.Verb.{Verb}
use Rattle.mud_rules.specs.declared.verb.Verb.TheVariants as verb
use Rattle.mud_rules.specs.declared.verdict.Query.{Query}
use Rattle.mud_rules.specs.declared.verdict.Query.TheVariants as query
use Rattle.mud_rules.specs.declared.verdict.Verdict.{Verdict}
use Rattle.mud_rules.specs.declared.verdict.Verdict.TheVariants as verdict
use Rattle.mud_rules.specs.Outcome.{outcome, if_shaped}
use Rattle.mud_rules.specs.Matches.{is_empty}
use Rattle.mud_rules.specs.Commands.{connect, connect_named}
use Rattle.mud_rules.specs.Shapes.{first_of}
use Rattle.mud_rules.specs.Table.{guest, decision, verb_named}
use Rattle.mud_rules.specs.declared.verdict.Journey.{Journey}
use Rattle.mud_rules.proofs.Ordered.{outcome_is}

abbrev IsPlain : Query → Type 0
IsPlain (query.View view) = Unit {0}
IsPlain (query.Journey journey) = ⊥
IsPlain (query.Proof journey) = ⊥
IsPlain query.History = Unit {0}

-- a guest's verdict is not a question about a journey
abbrev IsAskable : Verdict → Type 0
IsAskable (verdict.Ask q) = IsPlain q
IsAskable (verdict.Change e) = Unit {0}
IsAskable (verdict.Become p) = Unit {0}
IsAskable (verdict.Refused f) = Unit {0}

askable-shaped : (fits : Bool) (v : Verdict) → IsAskable v → IsAskable (if_shaped fits v)
askable-shaped true v is = is
askable-shaped false v is = tt

askable-lesser : (e : Change) (o : Option Refusal) → IsAskable (option_map_or verdict.Refused o (verdict.Change e))
askable-lesser e None = tt
askable-lesser e (Some f) = tt

askable-outcome : (w : State) (own : Option Refusal) (e : Change) → IsAskable (outcome w own e)
askable-outcome w own e = subst IsAskable (outcome_is w own e) (askable-lesser e (lesser own (refusal w e)))

askable-connecting : (w : State) (own : Option ℕ) (v : Verdict) → IsAskable v
    → IsAskable (option_map_or verdict.Become own v)
askable-connecting w None v is = is
askable-connecting w (Some p) v is = tt

askable-connect : (w : State) (o : Option (List ℕ))
    → IsAskable (option_map_or (connect_named w) o (verdict.Refused BadName))
askable-connect w None = tt
askable-connect w (Some name) = askable-connecting w (named_player w name) _ (askable-outcome w None _)

askable : (w : State) (l : Line) (v : Option Verb) → IsAskable (guest w l v)
askable w l None = tt
askable w l (Some verb.Connect) =
    askable-shaped (not (is_empty (first_of l))) (connect w (first_of l)) (askable-connect w (name_in (first_of l)))
askable w l (Some verb.Quit) = askable-shaped (is_empty l.args) _ tt
askable w l (Some other) = tt

-- a guest asks about no journey
pub guest-asks : (w : State) (l : Line) (q : Query) → decision w None l ≡ verdict.Ask q → (journey : Journey)
    → (q ≡ query.Journey journey → ⊥) × (q ≡ query.Proof journey → ⊥)
unfolding decision
guest-asks w l q is journey =
    let plain : IsPlain q = subst IsAskable is (askable w l (verb_named l.verb)) in
    (λ e. subst IsPlain e plain, λ e. subst IsPlain e plain)
