-- The verdict of a line is lawful, and the names, keys and texts of its change are valid.
use Rattle.std.proofs.Common.{◌≡◌, ℕ, ◌≤◌, inl, inr, Bool, true, false, List, [], Option, None, Some, Result, Ok}
use Rattle.std.proofs.Common.{Err}
use Rattle.std.proofs.Common.{refl, sym, ◌∙◌, subst}
use Rattle.std.specs.Prelude.{not, ◌&&◌, IsTrue, IfOk, is_none, nat_lt, if◌then◌else◌}
use Rattle.std.specs.Option.{option_map, option_map_or, option_and_then, option_zip}
use Rattle.std.specs.Result.{result_ok, result_map_both}
use Rattle.std.specs.List.{before_first, after_first}
use Rattle.std.proofs.lemmas.Bool.{cases_Bool, cond-true, cond-false, true≢false}
use Rattle.mud_key.specs.declared.limits.TheConstants.{LAST_NUMBER}
use Rattle.mud_key.specs.Name.{IsName}
use Rattle.mud_key.specs.Names.{AreNames}
use Rattle.mud_key.specs.Tree.{Tree, Has, Asks, Not, Join, AllObjects, IsKey}
use Rattle.mud_key.specs.Finds.{names_in, name_in, key_in}
use Rattle.mud_key.specs.Namer.{result_map, joined_result, resolved}
use Rattle.mud_key.specs.declared.namer.Miss.{Miss}
use Rattle.mud_key.specs.declared.namer.Miss.TheVariants.{NoSuch as MissNoSuch}
use Rattle.mud_key.proofs.Found.{names_law, name_law, key_law}
use Rattle.mud_key.proofs.NamesTaken.{are_names}
use Rattle.mud_key.proofs.Resolving.{resolved_key}
use Rattle.mud_words.specs.Line.{Line}
use Rattle.mud_words.specs.Parse.{parse_of}
use Rattle.mud_words.specs.inner.Spots.{join_words}
use Rattle.mud_words.specs.declared.Prep.TheVariants.{With, To, Is}
use Rattle.mud_world.specs.Speech.{is_speech}
use Rattle.mud_world.specs.Refusals.{number, lesser}
use Rattle.mud_world.specs.State.{State, exists, named_player, is_room, is_player}
use Rattle.mud_world.specs.Sound.{IsSound}
use Rattle.mud_world.specs.Legal.{refusal, is_arrival}
use Rattle.mud_world.specs.DeedParts.{HasParts, IsTarget}
use Rattle.mud_world.specs.inner.Fields.{AreDoors}
use Rattle.mud_world.specs.declared.change.Change.{Change}
use Rattle.mud_world.specs.declared.change.Deed.{Deed}
use Rattle.mud_world.specs.declared.change.Deed.TheVariants as deed
use Rattle.mud_world.specs.declared.change.Doors.{Doors}
use Rattle.mud_world.specs.declared.change.Target.{Target}
use Rattle.mud_world.specs.declared.change.Target.TheVariants.{New, Old}
use Rattle.mud_world.specs.declared.refusal.Refusal.{Refusal}
use Rattle.mud_world.specs.declared.refusal.Refusal.TheVariants.{NotUnderstood, NoSuch, WrongKind}
use Rattle.mud_world.specs.declared.refusal.Refusal.TheVariants.{BadName, BadKey, BadCost}
use Rattle.mud_world.proofs.Least.{refusals_law}
use Rattle.mud_world.proofs.Players.{named-player}
use Rattle.mud_rules.specs.declared.verb.Verb.{Verb}
use Rattle.mud_rules.specs.declared.verb.Verb.TheVariants as verb
use Rattle.mud_rules.specs.declared.verdict.View.TheVariants.{Look, LookAt}
use Rattle.mud_rules.specs.declared.verdict.Query.TheVariants as query
use Rattle.mud_rules.specs.declared.verdict.Verdict.{Verdict}
use Rattle.mud_rules.specs.declared.verdict.Verdict.TheVariants as verdict
use Rattle.mud_rules.specs.Matches.{is_empty, number_in, local_match, match_among, object_number}
use Rattle.mud_rules.specs.Outcome.{outcome, does, does_read, object_meant, of_kind, on_found, if_shaped, IsLawful}
use Rattle.mud_rules.specs.inner.Outcome.{IsActor, IsJourney, IsQuestion}
use Rattle.mud_rules.specs.declared.verdict.Journey.{Journey}
use Rattle.mud_rules.specs.declared.verdict.Journey.TheVariants.{Route}
use Rattle.mud_rules.proofs.Parties.{meet-lawful}
use Rattle.mud_rules.specs.Commands.{key_meant, doors_in, is_bar, target_in, dig_between, create, rename, cost, lock}
use Rattle.mud_rules.specs.Commands.{dig_room, has_bar, dig_exits, connect_named, connect, near_named, has_empty_side}
use Rattle.mud_rules.specs.Journeys.{route, meet}
use Rattle.mud_rules.specs.Shapes.{is_aimed, first_of, all_of, looked_at, is_pair, text_behind, object_named}
use Rattle.mud_rules.specs.Shapes.{object_before}
use Rattle.mud_rules.specs.Table.{connect_line, journey_of, command, other_line, guest, decision, verb_named}
use Rattle.mud_rules.specs.Laws.{IsMade}
use Rattle.mud_rules.proofs.Bounds.{number_of_object}
use Rattle.mud_rules.proofs.Ordered.{outcome_is}
use Rattle.mud_rules.specs.declared.verdict.Verdict.TheVariants.{Change as Changes}

-- the facts about a verdict, and about the parts of its change
abbrev IsFine : State → Option ℕ → Verdict → Type 0
IsFine w player (verdict.Change e) = IsMade w e × IsActor w player e
IsFine w player (verdict.Ask q) = IsQuestion w q
IsFine w player (verdict.Become n) = IsTrue (is_player w n)
IsFine w player (verdict.Refused f) = Unit {0}

-- ---- the parts of a verdict
no-some : {A B : Type 0} (x : A) → Some x ≡ None → B
no-some x e = absurd (cc)

lesser-none : (own other : Option Refusal) → lesser own other ≡ None → other ≡ None
lesser-none None other e = e
lesser-none (Some f) None e = no-some f e
lesser-none (Some f) (Some g) e = elim (cases_Bool (nat_lt (number g) (number f))) [
  | inl t ↦ no-some g (sym (cond-true (nat_lt (number g) (number f)) (Some g) (Some f) t) ∙ e)
  | inr t ↦ no-some f (sym (cond-false (nat_lt (number g) (number f)) (Some g) (Some f) t) ∙ e)
]

fine-legal : (w : State) (player : Option ℕ) (own : Option Refusal) (e : Change) → IsActor w player e
    → (refusal w e ≡ None → HasParts e.deed) → IsFine w player (outcome w own e)
fine-legal w player own e acts parts =
    subst (IsFine w player) (outcome_is w own e) (go (lesser own (refusal w e)) refl)
  where
    go : (o : Option Refusal) → lesser own (refusal w e) ≡ o
        → IsFine w player (option_map_or verdict.Refused o (verdict.Change e))
    go None is =
        let legal = lesser-none own (refusal w e) is in
        (record { legal = legal; parts = parts legal }, acts)
    go (Some f) is = tt

by_player : (w : State) (p : ℕ) (d : Deed) → is_arrival d ≡ false → IsActor w (Some p) (record { actor = p; deed = d })
by_player w p d acts = record { old = λ e. refl; new = λ e. absurd (true≢false (sym e ∙ acts)) }

fine-does : (w : State) (p : ℕ) (own : Option Refusal) (d : Deed) → is_arrival d ≡ false → HasParts d
    → IsFine w (Some p) (does w p own d)
fine-does w p own d acts parts =
    fine-legal w (Some p) own (record { actor = p; deed = d }) (by_player w p d acts) (λ legal. parts)

never-none : {B : Type 0} (f : Refusal) (o : Option Refusal) → lesser (Some f) o ≡ None → B
never-none f None e = no-some f e
never-none f (Some g) e = no-some g (lesser-none (Some f) (Some g) e)

fine-refused : (w : State) (p : ℕ) (own : Refusal) (d : Deed) → IsFine w (Some p) (does w p (Some own) d)
fine-refused w p own d =
    subst (IsFine w (Some p)) (outcome_is w (Some own) e) (go (lesser (Some own) (refusal w e)) refl)
  where
    e : Change
    e = record { actor = p; deed = d }

    go : (o : Option Refusal) → lesser (Some own) (refusal w e) ≡ o
        → IsFine w (Some p) (option_map_or verdict.Refused o (verdict.Change e))
    go None is = never-none own (refusal w e) is
    go (Some f) is = tt

fine-read : {A : Type 0} (w : State) (p : ℕ) (own : Refusal) (blank : A) (o : Option A) (d : A → Deed)
    → ((x : A) → is_arrival (d x) ≡ false) → ((x : A) → o ≡ Some x → HasParts (d x))
    → IsFine w (Some p) (does_read w p own blank o d)
fine-read w p own blank None d acts is = fine-refused w p own (d blank)
fine-read w p own blank (Some x) d acts is = fine-does w p None (d x) (acts x) (is x refl)

fine-found : {A : Type 0} (w : State) (player : Option ℕ) (r : Result A Refusal) (f : A → Verdict)
    → ((x : A) → IsFine w player (f x)) → IsFine w player (on_found r f)
fine-found w player (Ok x) f is = is x
fine-found w player (Err g) f is = tt

fine-shaped : (w : State) (player : Option ℕ) (b : Bool) (v : Verdict) → IsFine w player v
    → IsFine w player (if_shaped b v)
fine-shaped w player true v is = is
fine-shaped w player false v is = tt

fine-if : (w : State) (player : Option ℕ) (b : Bool) (u v : Verdict) → IsFine w player u → IsFine w player v
    → IsFine w player (if b then u else v)
fine-if w player true u v x y = x
fine-if w player false u v x y = y

-- ---- names and texts
names-are : (text : List ℕ) (names : List (List ℕ)) → names_in text ≡ Some names → AreNames names
names-are text names is = are_names text names ((names_law text names).0 is)

true-of : (b : Bool) → not b ≡ false → b ≡ true
true-of true e = refl
true-of false e = absurd (true≢false e)

-- a text that is not a speech is refused
says-speech : (w : State) (p : ℕ) (text : List ℕ)
    → refusal w (record { actor = p; deed = deed.Say text }) ≡ None → IsTrue (is_speech text)
says-speech w p text legal =
    true-of (is_speech text) ((refusals_law w (record { actor = p; deed = deed.Say text })).1.0 legal BadName)

emotes-speech : (w : State) (p : ℕ) (text : List ℕ)
    → refusal w (record { actor = p; deed = deed.Emote text }) ≡ None → IsTrue (is_speech text)
emotes-speech w p text legal =
    true-of (is_speech text) ((refusals_law w (record { actor = p; deed = deed.Emote text })).1.0 legal BadName)

-- ---- keys
abbrev AreNumbers : Result (Tree ℕ) Miss → Type 0
AreNumbers (Ok k) = AllObjects (λ n. n ≤ LAST_NUMBER) k
AreNumbers (Err e) = Unit {0}

abbrev IsNumber : Result ℕ Miss → Type 0
IsNumber (Ok n) = n ≤ LAST_NUMBER
IsNumber (Err e) = Unit {0}

numbers-has : (r : Result ℕ Miss) → IsNumber r → AreNumbers (result_map Has r)
numbers-has (Ok n) h = h
numbers-has (Err e) h = tt

numbers-asks : (r : Result ℕ Miss) → IsNumber r → AreNumbers (result_map Asks r)
numbers-asks (Ok n) h = h
numbers-asks (Err e) h = tt

numbers-not : (r : Result (Tree ℕ) Miss) → AreNumbers r → AreNumbers (result_map Not r)
numbers-not (Ok k) h = h
numbers-not (Err e) h = tt

numbers-join : (op : _) (r s : Result (Tree ℕ) Miss) → AreNumbers r → AreNumbers s → AreNumbers (joined_result op r s)
numbers-join op (Ok a) (Ok b) h i = (h, i)
numbers-join op (Ok a) (Err e) h i = tt
numbers-join op (Err e) s h i = tt

numbers-resolved : (meaning : List ℕ → Result ℕ Miss) → ((o : List ℕ) → IsNumber (meaning o)) → (t : Tree (List ℕ))
    → AreNumbers (resolved meaning t)
numbers-resolved meaning is (Has o) = numbers-has (meaning o) (is o)
numbers-resolved meaning is (Asks o) = numbers-asks (meaning o) (is o)
numbers-resolved meaning is (Not k) = numbers-not (resolved meaning k) (numbers-resolved meaning is k)
numbers-resolved meaning is (Join op a b) =
    numbers-join op (resolved meaning a) (resolved meaning b) (numbers-resolved meaning is a)
    (numbers-resolved meaning is b)

abbrev as_miss : Result ℕ Refusal → Result ℕ Miss
as_miss r = result_map_both (λ n. n) (λ f. MissNoSuch) r

existing-number : (w : State) → IsSound w → (r : Result ℕ Refusal) → IsNumber (as_miss (of_kind (exists w) r))
existing-number w sound (Err f) = tt
existing-number w sound (Ok n) = elim (cases_Bool (exists w n)) [
  | inl t ↦
      subst (λ r. IsNumber (as_miss r)) (sym (cond-true (exists w n) (Ok n) (Err WrongKind) t))
      (number_of_object w n sound t)
  | inr f ↦ subst (λ r. IsNumber (as_miss r)) (sym (cond-false (exists w n) (Ok n) (Err WrongKind) f)) tt
]

near-number : (w : State) → IsSound w → (p : ℕ) (o : List ℕ) → IsNumber (near_named w p o)
near-number w sound p o = existing-number w sound (object_meant NoSuch (local_match w p o))

key-is : (w : State) → IsSound w → (p : ℕ) (text : List ℕ) (k : Tree ℕ) → key_meant w p text ≡ Some k → IsKey k
key-is w sound p text k is = go (key_in text) refl is
  where
    found-key : (t : Tree (List ℕ)) → key_in text ≡ Some t → (r : Result (Tree ℕ) Miss)
        → resolved (near_named w p) t ≡ r → result_ok r ≡ Some k → IsKey k
    found-key t read (Err miss) at e = absurd (let bad : ◌≡◌ {A = Option (Tree ℕ)} None (Some k) = e in cc)
    found-key t read (Ok found) at e =
        let same : found ≡ k = cc in
        let numbers : AreNumbers (Ok found) =
        subst AreNumbers at (numbers-resolved (near_named w p) (near-number w sound p) t) in
        subst IsKey same (resolved_key (near_named w p) t found at ((key_law text t).0 read).1 numbers)

    go : (o : Option (Tree (List ℕ))) → key_in text ≡ o
        → option_and_then (λ t. result_ok (resolved (near_named w p) t)) o ≡ Some k → IsKey k
    go None read e = absurd (let bad : ◌≡◌ {A = Option (Tree ℕ)} None (Some k) = e in cc)
    go (Some t) read e = found-key t read (resolved (near_named w p) t) refl e

-- ---- digging
abbrev two_doors : Option (List (List ℕ)) → Option (List (List ℕ)) → Option Doors
two_doors a b = option_map (λ names. record { out = names.0; back = Some names.1 }) (option_zip a b)

two-are : (a b : Option (List (List ℕ))) → ((ns : List (List ℕ)) → a ≡ Some ns → AreNames ns)
    → ((ns : List (List ℕ)) → b ≡ Some ns → AreNames ns)
    → (d : Doors) → two_doors a b ≡ Some d → AreDoors (Some d)
two-are (Some out) (Some back) x y d e =
    let same : ◌≡◌ {A = Doors} (record { out = out; back = Some back }) d = cc in
    subst (λ (z : Doors). AreDoors (Some z)) same (x out refl, y back refl)
two-are (Some out) None x y d e = absurd (let bad : ◌≡◌ {A = Option Doors} None (Some d) = e in cc)
two-are None b x y d e = absurd (let bad : ◌≡◌ {A = Option Doors} None (Some d) = e in cc)

out-are : (a : Option (List (List ℕ))) → ((ns : List (List ℕ)) → a ≡ Some ns → AreNames ns) → (d : Doors)
    → option_map (λ out. record { out = out; back = None }) a ≡ Some d → AreDoors (Some d)
out-are (Some out) x d e =
    let same : ◌≡◌ {A = Doors} (record { out = out; back = None }) d = cc in
    subst (λ (z : Doors). AreDoors (Some z)) same (x out refl, tt)
out-are None x d e = absurd (let bad : ◌≡◌ {A = Option Doors} None (Some d) = e in cc)

doors-are : (text : List ℕ) (d : Doors) → doors_in text ≡ Some d → AreDoors (Some d)
doors-are text d e =
    let two : Option Doors = two_doors (names_in (before_first is_bar text)) (names_in (after_first is_bar text)) in
    let one : Option Doors = option_map (λ out. record { out = out; back = None }) (names_in text) in
    elim (cases_Bool (has_bar text)) [
      | inl t ↦ two-are (names_in (before_first is_bar text)) (names_in (after_first is_bar text))
          (λ ns at. names-are (before_first is_bar text) ns at) (λ ns at. names-are (after_first is_bar text) ns at) d
          (sym (cond-true (has_bar text) two one t) ∙ e)
      | inr f ↦ out-are (names_in text) (λ ns at. names-are text ns at) d
          (sym (cond-false (has_bar text) two one f) ∙ e)
    ]

target-is : (text : List ℕ) (t : Target) → target_in text ≡ Some t → IsTarget t
target-is text t e = go (object_number text) (names_in text) (λ ns at. names-are text ns at) e
  where
    go : (o : Option ℕ) (a : Option (List (List ℕ))) → ((ns : List (List ℕ)) → a ≡ Some ns → AreNames ns)
        → option_map_or (λ n. Some (Old n)) o (option_map New a) ≡ Some t → IsTarget t
    go (Some n) a x at = let same : Old n ≡ t = cc in subst IsTarget same tt
    go None (Some ns) x at = let same : New ns ≡ t = cc in subst IsTarget same (x ns refl)
    go None None x at = absurd (let bad : ◌≡◌ {A = Option Target} None (Some t) = at in cc)

fine-between : (w : State) (p : ℕ) (d : Option Doors) (t : Option Target)
    → ((x : Doors) → d ≡ Some x → AreDoors (Some x)) → ((x : Target) → t ≡ Some x → IsTarget x)
    → IsFine w (Some p) (dig_between w p d t)
fine-between w p None None x y = fine-refused w p BadName (deed.Dig (New []) (Some (record { out = []; back = None })))
fine-between w p None (Some target) x y =
    fine-refused w p BadName (deed.Dig target (Some (record { out = []; back = None })))
fine-between w p (Some doors) None x y = fine-refused w p BadName (deed.Dig (New []) (Some doors))
fine-between w p (Some doors) (Some target) x y =
    fine-does w p None (deed.Dig target (Some doors)) refl (y target refl, x doors refl)

fine-dig_room : (w : State) (p : ℕ) (text : List ℕ) → IsFine w (Some p) (dig_room w p text)
fine-dig_room w p text =
    fine-read w p BadName [] (names_in text) (λ names. deed.Dig (New names) None) (λ names. refl)
    (λ names is. (names-are text names is, tt))

fine-dig : (w : State) (p : ℕ) (l : Line) → IsFine w (Some p) (command w p l verb.Dig)
fine-dig w p l =
    let fits = is_pair To l && not (has_empty_side l.direct) in
    fine-if w (Some p) (is_none l.prep) (on_found (text_behind l) (dig_room w p))
    (if_shaped fits (dig_exits w p l.direct l.indirect))
    (fine-found w (Some p) (text_behind l) (dig_room w p) (fine-dig_room w p))
    (fine-shaped w (Some p) fits (dig_exits w p l.direct l.indirect)
    (fine-between w p (doors_in l.direct) (target_in l.indirect) (doors-are l.direct) (target-is l.indirect)))

-- ---- players
fine-connecting : (w : State) → IsSound w → (player : Option ℕ) (name : List ℕ) → IsName name
    → IsFine w player (connect_named w name)
fine-connecting w sound player name is = go (named_player w name) refl
  where
    new : Change
    new = record { actor = w.next; deed = deed.Player name }

    go : (o : Option ℕ) → named_player w name ≡ o
        → IsFine w player (option_map_or verdict.Become o (outcome w None new))
    go (Some n) named = named-player w sound name n named
    go None named =
        fine-legal w player None new (record { old = λ e. absurd (true≢false e); new = λ e. refl }) (λ legal. is)

fine-connect_line : (w : State) → IsSound w → (player : Option ℕ) (l : Line) → IsFine w player (connect_line w l)
fine-connect_line w sound player l =
    fine-shaped w player (not (is_empty (first_of l))) (connect w (first_of l)) (go (name_in (first_of l)) refl)
  where
    go : (o : Option (List ℕ)) → name_in (first_of l) ≡ o
        → IsFine w player (option_map_or (connect_named w) o (verdict.Refused BadName))
    go None is = tt
    go (Some name) is =
        let h = (name_law (first_of l) name).0 is in fine-connecting w sound player name (subst IsName (sym h.0) h.1)

-- ---- journeys
kind-is : (wanted : ℕ → Bool) (r : Result ℕ Refusal) → IfOk (of_kind wanted r) (λ n. IsTrue (wanted n))
kind-is wanted (Err f) = tt
kind-is wanted (Ok n) = go (wanted n) refl
  where
    go : (b : Bool) → wanted n ≡ b → IfOk (if b then Ok n else Err WrongKind) (λ n. IsTrue (wanted n))
    go true is = is
    go false is = tt

route-of : (w : State) (r : Result ℕ Refusal) → IfOk r (λ n. IsTrue (is_room w n))
    → IfOk (result_map_both Route (λ f. f) r) (IsJourney w)
route-of w (Ok n) is = is
route-of w (Err f) is = tt

journey-if : (w : State) (b : Bool) (r s : Result Journey Refusal) → IfOk r (IsJourney w) → IfOk s (IsJourney w)
    → IfOk (if b then r else s) (IsJourney w)
journey-if w true r s x y = x
journey-if w false r s x y = y

journey-is : (w : State) (p : ℕ) (l : Line) (o : Option Verb) → IfOk (journey_of w p l o) (IsJourney w)
journey-is w p l None = tt
journey-is w p l (Some verb.Route) =
    journey-if w (is_aimed To l) (route w p l.indirect) (Err NotUnderstood)
    (route-of w _ (kind-is (is_room w) (object_meant NoSuch (match_among (is_room w) w p l.indirect)))) tt
journey-is w p l (Some verb.Meet) =
    journey-if w (is_empty (all_of l)) (Err NotUnderstood) (meet w p (all_of l)) tt (meet-lawful w p (all_of l))
journey-is w p l (Some other) = tt

fine-asked : (w : State) (player : Option ℕ) (r : Result Journey Refusal) → IfOk r (IsJourney w)
    → IsFine w player (on_found r (λ j. verdict.Ask (query.Journey j)))
fine-asked w player (Ok j) is = is
fine-asked w player (Err f) is = tt

fine-proof : (w : State) (player : Option ℕ) (r : Result Journey Refusal) → IfOk r (IsJourney w)
    → IsFine w player (on_found r (λ j. verdict.Ask (query.Proof j)))
fine-proof w player (Ok j) is = is
fine-proof w player (Err f) is = tt

-- ---- the table

-- the last clause covers all commands that act on what they find
fine-command : (w : State) → IsSound w → (p : ℕ) (l : Line) (v : Verb) → IsFine w (Some p) (command w p l v)
fine-command w sound p l verb.Connect = fine-connect_line w sound (Some p) l
fine-command w sound p l verb.Look =
    let object = object_named w p (join_words (looked_at l.args)) in
    fine-if w (Some p) (is_empty l.args) (verdict.Ask (query.View Look))
    (on_found object (λ x. verdict.Ask (query.View (LookAt x)))) tt
    (fine-found w (Some p) object (λ x. verdict.Ask (query.View (LookAt x))) (λ x. tt))
fine-command w sound p l verb.Inventory = fine-shaped w (Some p) (is_empty l.args) _ tt
fine-command w sound p l verb.Say =
    fine-legal w (Some p) None (record { actor = p; deed = deed.Say l.rest }) (by_player w p (deed.Say l.rest) refl)
    (says-speech w p l.rest)
fine-command w sound p l verb.Emote =
    fine-legal w (Some p) None (record { actor = p; deed = deed.Emote l.rest }) (by_player w p (deed.Emote l.rest) refl)
    (emotes-speech w p l.rest)
fine-command w sound p l verb.Dig = fine-dig w p l
fine-command w sound p l verb.Create =
    fine-found w (Some p) (text_behind l) (create w p)
    (λ text. fine-read w p BadName [] (names_in text) deed.Make (λ names. refl) (λ names is. names-are text names is))
fine-command w sound p l verb.Lock =
    fine-found w (Some p) (object_before With w p l) (λ x. lock w p x l.indirect)
    (λ x. fine-read w p BadKey (Has 0) (key_meant w p l.indirect) (deed.Lock x) (λ k. refl)
    (λ k is. key-is w sound p l.indirect k is))
fine-command w sound p l verb.Key = fine-found w (Some p) (object_named w p (all_of l)) _ (λ x. tt)
fine-command w sound p l verb.Cost =
    fine-found w (Some p) (object_before Is w p l) (λ x. cost w p x l.indirect)
    (λ x. fine-read w p BadCost 0 (number_in l.indirect) (deed.Cost x) (λ n. refl) (λ n is. tt))
fine-command w sound p l verb.Rename =
    fine-found w (Some p) (object_before To w p l) (λ x. rename w p x l.indirect)
    (λ x. fine-read w p BadName [] (names_in l.indirect) (deed.Rename x) (λ names. refl)
    (λ names is. names-are l.indirect names is))
fine-command w sound p l verb.Route =
    fine-asked w (Some p) (journey_of w p l (Some verb.Route)) (journey-is w p l (Some verb.Route))
fine-command w sound p l verb.Meet =
    fine-asked w (Some p) (journey_of w p l (Some verb.Meet)) (journey-is w p l (Some verb.Meet))
fine-command w sound p l verb.Proof =
    let line = parse_of l.rest in
    fine-proof w (Some p) (journey_of w p line (verb_named line.verb)) (journey-is w p line (verb_named line.verb))
fine-command w sound p l verb.Version = fine-shaped w (Some p) (is_empty l.args) _ tt
fine-command w sound p l verb.History = fine-shaped w (Some p) (is_empty l.args) _ tt
fine-command w sound p l verb.Quit = fine-shaped w (Some p) (is_empty l.args) _ tt
fine-command w sound p l other = fine-found w (Some p) _ _ (λ x. fine-does w p _ _ refl tt)

fine-guest : (w : State) → IsSound w → (l : Line) (o : Option Verb) → IsFine w None (guest w l o)
fine-guest w sound l None = tt
fine-guest w sound l (Some verb.Connect) = fine-connect_line w sound None l
fine-guest w sound l (Some verb.Quit) = fine-shaped w None (is_empty l.args) _ tt
fine-guest w sound l (Some other) = tt

fine-decision : (w : State) → IsSound w → (player : Option ℕ) (l : Line) → IsFine w player (decision w player l)
unfolding decision
fine-decision w sound None l = fine-guest w sound l (verb_named l.verb)
fine-decision w sound (Some p) l = go (verb_named l.verb)
  where
    go : (o : Option Verb) → IsFine w (Some p) (option_map_or (command w p l) o (other_line w p l))
    go None = fine-found w (Some p) _ _ (λ x. fine-does w p None (deed.Walk x) refl tt)
    go (Some v) = fine-command w sound p l v

-- ---- consequences

lawful-of : (w : State) (player : Option ℕ) (v : Verdict) → IsFine w player v → IsLawful w player v
lawful-of w player (verdict.Change e) is = (is.0.legal, is.1)
lawful-of w player (verdict.Ask q) is = is
lawful-of w player (verdict.Become n) is = is
lawful-of w player (verdict.Refused f) is = tt

-- in a sound world each decision is lawful
pub are_lawful : (w : State) → IsSound w → (player : Option ℕ) (l : Line) → IsLawful w player (decision w player l)
are_lawful w sound player l = lawful-of w player (decision w player l) (fine-decision w sound player l)

pub are_made : (w : State) → IsSound w → (player : Option ℕ) (l : Line) (e : Change)
    → decision w player l ≡ Changes e → IsMade w e
are_made w sound player l e is =
    let fine : IsFine w player (Changes e) = subst (IsFine w player) is (fine-decision w sound player l) in fine.0
