-- Only the verb of a question asks.
use Rattle.std.proofs.Common.{◌≡◌, ℕ, Bool, true, false, List, Option, None, Some, Result, Ok, Err}
use Rattle.std.proofs.Common.{refl, subst}
use Rattle.std.specs.Prelude.{not, ◌&&◌, is_none, if◌then◌else◌}
use Rattle.std.specs.Option.{option_map_or}
use Rattle.mud_key.specs.Finds.{name_in}
use Rattle.mud_words.specs.Line.{Line}
use Rattle.mud_words.specs.Parse.{parse_of}
use Rattle.mud_words.specs.inner.Spots.{join_words}
use Rattle.mud_words.specs.declared.Prep.TheVariants.{To}
use Rattle.mud_world.specs.Refusals.{lesser}
use Rattle.mud_world.specs.State.{State, named_player}
use Rattle.mud_world.specs.Legal.{refusal}
use Rattle.mud_world.specs.declared.change.Change.{Change}
use Rattle.mud_world.specs.declared.change.Deed.{Deed}
use Rattle.mud_world.specs.declared.refusal.Refusal.{Refusal}
use Rattle.mud_world.specs.declared.refusal.Refusal.TheVariants.{BadName}
use Rattle.mud_rules.specs.declared.verb.Verb.{Verb}
use Rattle.mud_rules.specs.declared.verb.Verb.TheVariants as verb
use Rattle.mud_rules.specs.declared.verdict.View.TheVariants.{Look, LookAt, Inventory, KeyOf, Version, Quit}
use Rattle.mud_rules.specs.declared.verdict.Query.TheVariants as query
use Rattle.mud_rules.specs.declared.verdict.Verdict.{Verdict}
use Rattle.mud_rules.specs.declared.verdict.Verdict.TheVariants as verdict
use Rattle.mud_rules.specs.Matches.{is_empty}
use Rattle.mud_rules.specs.Outcome.{outcome, does, on_found, if_shaped}
use Rattle.mud_rules.specs.Commands.{connect, connect_named, dig_room, dig_exits, has_empty_side}
use Rattle.mud_rules.specs.Shapes.{first_of, all_of, looked_at, object_named, is_pair, text_behind}
use Rattle.mud_rules.specs.Table.{verb_named, connect_line, journey_of, command, other_line, guest, decision}
use Rattle.mud_rules.specs.Table.{asks, is_question}
use Rattle.mud_rules.specs.Laws.{AreQuestions}
use Rattle.mud_rules.proofs.Ordered.{outcome_is}

-- only a question asks
abbrev AsksIf : Bool → Verdict → Type 0
AsksIf question (verdict.Ask q) = question ≡ true
AsksIf question (verdict.Change e) = Unit {0}
AsksIf question (verdict.Become n) = Unit {0}
AsksIf question (verdict.Refused f) = Unit {0}

asks-found : {A : Type 0} (b : Bool) (r : Result A Refusal) (f : A → Verdict)
    → ((x : A) → AsksIf b (f x)) → AsksIf b (on_found r f)
asks-found b (Ok x) f is = is x
asks-found b (Err g) f is = tt

asks-either : (b t : Bool) (u v : Verdict) → AsksIf b u → AsksIf b v → AsksIf b (if t then u else v)
asks-either b true u v x y = x
asks-either b false u v x y = y

asks-shaped : (b t : Bool) (v : Verdict) → AsksIf b v → AsksIf b (if_shaped t v)
asks-shaped b true v is = is
asks-shaped b false v is = tt

asks-lesser : (b : Bool) (e : Change) (o : Option Refusal)
    → AsksIf b (option_map_or verdict.Refused o (verdict.Change e))
asks-lesser b e None = tt
asks-lesser b e (Some f) = tt

asks-outcome : (b : Bool) (w : State) (own : Option Refusal) (e : Change) → AsksIf b (outcome w own e)
asks-outcome b w own e = subst (AsksIf b) (outcome_is w own e) (asks-lesser b e (lesser own (refusal w e)))

asks-does : (b : Bool) (w : State) (p : ℕ) (own : Option Refusal) (d : Deed) → AsksIf b (does w p own d)
asks-does b w p own d = asks-outcome b w own (record { actor = p; deed = d })

asks-connecting : (b : Bool) (o : Option ℕ) (v : Verdict) → AsksIf b v → AsksIf b (option_map_or verdict.Become o v)
asks-connecting b None v is = is
asks-connecting b (Some n) v is = tt

asks-connect : (b : Bool) (w : State) (o : Option (List ℕ))
    → AsksIf b (option_map_or (connect_named w) o (verdict.Refused BadName))
asks-connect b w None = tt
asks-connect b w (Some name) = asks-connecting b (named_player w name) _ (asks-outcome b w None _)

asks-connect_line : (b : Bool) (w : State) (l : Line) → AsksIf b (connect_line w l)
asks-connect_line b w l =
    asks-shaped b (not (is_empty (first_of l))) (connect w (first_of l)) (asks-connect b w (name_in (first_of l)))

-- ---- the table

-- the last clause covers all commands that act on what they find
asks-command : (w : State) (p : ℕ) (l : Line) (v : Verb) → AsksIf (asks v) (command w p l v)
asks-command w p l verb.Connect = asks-connect_line false w l
asks-command w p l verb.Look =
    let named = object_named w p (join_words (looked_at l.args)) in
    let shown : ℕ → Verdict = λ x. verdict.Ask (query.View (LookAt x)) in
    asks-either true (is_empty l.args) (verdict.Ask (query.View Look)) (on_found named shown) refl
    (asks-found true named shown (λ x. refl))
asks-command w p l verb.Inventory = asks-shaped true (is_empty l.args) (verdict.Ask (query.View Inventory)) refl
asks-command w p l verb.Say = asks-does false w p _ _
asks-command w p l verb.Emote = asks-does false w p _ _
asks-command w p l verb.Dig =
    asks-either false (is_none l.prep) (on_found (text_behind l) (dig_room w p))
    (if_shaped (is_pair To l && not (has_empty_side l.direct)) (dig_exits w p l.direct l.indirect))
    (asks-found false (text_behind l) (dig_room w p) (λ x. asks-does false w p _ _))
    (asks-shaped false (is_pair To l && not (has_empty_side l.direct)) (dig_exits w p l.direct l.indirect)
    (asks-does false w p _ _))
asks-command w p l verb.Key =
    asks-found true (object_named w p (all_of l)) (λ x. verdict.Ask (query.View (KeyOf x))) (λ x. refl)
asks-command w p l verb.Route =
    asks-found true (journey_of w p l (Some verb.Route)) (λ j. verdict.Ask (query.Journey j)) (λ j. refl)
asks-command w p l verb.Meet =
    asks-found true (journey_of w p l (Some verb.Meet)) (λ j. verdict.Ask (query.Journey j)) (λ j. refl)
asks-command w p l verb.Proof =
    let line = parse_of l.rest in
    asks-found true (journey_of w p line (verb_named line.verb)) (λ j. verdict.Ask (query.Proof j)) (λ j. refl)
asks-command w p l verb.Version = asks-shaped true (is_empty l.args) (verdict.Ask (query.View Version)) refl
asks-command w p l verb.History = asks-shaped true (is_empty l.args) (verdict.Ask query.History) refl
asks-command w p l verb.Quit = asks-shaped true (is_empty l.args) (verdict.Ask (query.View Quit)) refl
asks-command w p l other = asks-found false _ _ (λ x. asks-does false w p _ _)

asks-other : (w : State) (p : ℕ) (l : Line) → AsksIf false (other_line w p l)
asks-other w p l = asks-found false _ _ (λ x. asks-does false w p _ _)

asks-guest : (w : State) (l : Line) (o : Option Verb) → AsksIf (option_map_or asks o false) (guest w l o)
asks-guest w l None = tt
asks-guest w l (Some verb.Connect) = asks-connect_line false w l
asks-guest w l (Some verb.Quit) = asks-shaped true (is_empty l.args) (verdict.Ask (query.View Quit)) refl
asks-guest w l (Some other) = tt

asks-decision : (w : State) (player : Option ℕ) (l : Line) → AsksIf (is_question l) (decision w player l)
unfolding decision
asks-decision w None l = asks-guest w l (verb_named l.verb)
asks-decision w (Some p) l = go (verb_named l.verb)
  where
    go : (o : Option Verb) → AsksIf (option_map_or asks o false) (option_map_or (command w p l) o (other_line w p l))
    go None = asks-other w p l
    go (Some v) = asks-command w p l v

pub are_questions : AreQuestions
are_questions w player l q is = subst (AsksIf (is_question l)) is (asks-decision w player l)
