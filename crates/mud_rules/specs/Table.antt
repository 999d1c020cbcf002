-- The table of commands: verb, shape and meaning.
use Rattle.std.specs.Prelude.{ℕ, Bool, true, false, not, ◌&&◌, List, [], ◌∷◌, codes, Option, Some, None, is_none}
use Rattle.std.specs.Prelude.{Result, Err, if◌then◌else◌}
use Rattle.std.specs.Option.{option_map_or}
use Rattle.std.specs.List.{join_with_byte}
use Rattle.std.specs.Map.{lookup}
use Rattle.std.specs.Str.{str_eq_ignore_ascii_case}
use Rattle.mud_words.specs.declared.codes.TheConstants.{SPACE}
use Rattle.mud_words.specs.declared.Prep.TheVariants.{With, To, In, Is}
use Rattle.mud_words.specs.Line.{Line}
use Rattle.mud_words.specs.Parse.{parse_of}
use Rattle.mud_world.specs.declared.change.Deed.TheVariants.{Move, Walk, Unlock, Recycle, Say, Emote}
use Rattle.mud_world.specs.declared.refusal.Refusal.{Refusal}
use Rattle.mud_world.specs.declared.refusal.Refusal.TheVariants.{NotUnderstood}
use Rattle.mud_world.specs.State.{State, place_of, leaving_of}
use Rattle.mud_rules.specs.declared.verb.Verb.{Verb}
use Rattle.mud_rules.specs.declared.verb.Verb.TheVariants as verb
use Rattle.mud_rules.specs.declared.matching.Likeness.TheVariants.{Equal}
use Rattle.mud_rules.specs.declared.verdict.View.TheVariants.{Look, LookAt, Inventory, KeyOf, Version, Quit}
use Rattle.mud_rules.specs.declared.verdict.Journey.{Journey}
use Rattle.mud_rules.specs.declared.verdict.Query.TheVariants as query
use Rattle.mud_rules.specs.declared.verdict.Verdict.{Verdict}
use Rattle.mud_rules.specs.declared.verdict.Verdict.TheVariants.{Ask, Refused}
use Rattle.mud_rules.specs.Matches.{is_empty, sole_like}
use Rattle.mud_rules.specs.Outcome.{does, object_meant, on_found, if_shaped}
use Rattle.mud_rules.specs.Commands.{connect, drop_down, put, give, lock, create, cost, rename, dig_room, dig_exits}
use Rattle.mud_rules.specs.Commands.{has_empty_side}
use Rattle.mud_rules.specs.Journeys.{route, meet}
use Rattle.mud_rules.specs.Shapes.{all_of, first_of, looked_at, is_pair, is_aimed, text_behind}
use Rattle.mud_rules.specs.Shapes.{object_named, object_before, objects_round}

-- ---- verbs

-- the words that are verbs
abbrev pub verbs : List (List ℕ × Verb)
verbs =
    (codes "connect", verb.Connect) ∷ (codes "look", verb.Look) ∷ (codes "l", verb.Look)
    ∷ (codes "inventory", verb.Inventory) ∷ (codes "inv", verb.Inventory) ∷ (codes "i", verb.Inventory)
    ∷ (codes "go", verb.Go) ∷ (codes "take", verb.Take) ∷ (codes "get", verb.Take) ∷ (codes "drop", verb.Drop)
    ∷ (codes "put", verb.Put) ∷ (codes "give", verb.Give) ∷ (codes "say", verb.Say)
    ∷ (codes "emote", verb.Emote) ∷ (codes "@dig", verb.Dig) ∷ (codes "@create", verb.Create)
    ∷ (codes "@lock", verb.Lock) ∷ (codes "@unlock", verb.Unlock) ∷ (codes "@key", verb.Key)
    ∷ (codes "@cost", verb.Cost) ∷ (codes "@rename", verb.Rename) ∷ (codes "@recycle", verb.Recycle)
    ∷ (codes "route", verb.Route) ∷ (codes "meet", verb.Meet) ∷ (codes "proof", verb.Proof)
    ∷ (codes "@version", verb.Version) ∷ (codes "@history", verb.History) ∷ (codes "quit", verb.Quit) ∷ []

-- the verb that a word names, ignoring ASCII case
unfoldable pub verb_named : List ℕ → Option Verb
verb_named text = lookup (str_eq_ignore_ascii_case text) verbs

-- ---- the table

-- connect NAME, of a player or of a guest: become the player with that name, or else make a new one
abbrev pub connect_line : State → Line → Verdict
connect_line w l = if_shaped (not (is_empty (first_of l))) (connect w (first_of l))

-- the journey of a line with this verb: `route to R`, with no text before it, or `meet P, P and so on`
abbrev pub journey_of : State → ℕ → Line → Option Verb → Result Journey Refusal
journey_of w p l (Some verb.Route) = if is_aimed To l then route w p l.indirect else Err NotUnderstood
journey_of w p l (Some verb.Meet) = if is_empty (all_of l) then Err NotUnderstood else meet w p (all_of l)
journey_of w p l other = Err NotUnderstood

-- the verdict for a line of player p with a verb; a dig without a preposition has no exits
abbrev pub command : State → ℕ → Line → Verb → Verdict
command w p l verb.Connect = connect_line w l
command w p l verb.Look =
    if is_empty l.args then Ask (query.View Look)
    else on_found (object_named w p (join_with_byte SPACE (looked_at l.args))) (λ x. Ask (query.View (LookAt x)))
command w p l verb.Inventory = if_shaped (is_empty l.args) (Ask (query.View Inventory))
command w p l verb.Go = on_found (object_named w p (all_of l)) (λ x. does w p None (Walk x))
command w p l verb.Take = on_found (object_named w p (all_of l)) (λ x. does w p None (Move x p))
command w p l verb.Drop = on_found (object_named w p (all_of l)) (drop_down w p)
command w p l verb.Put = on_found (objects_round In w p l) (put w p)
command w p l verb.Give = on_found (objects_round To w p l) (give w p)
command w p l verb.Say = does w p None (Say l.rest)
command w p l verb.Emote = does w p None (Emote l.rest)
command w p l verb.Dig =
    if is_none l.prep then on_found (text_behind l) (dig_room w p)
    else if_shaped (is_pair To l && not (has_empty_side l.direct)) (dig_exits w p l.direct l.indirect)
command w p l verb.Create = on_found (text_behind l) (create w p)
command w p l verb.Lock = on_found (object_before With w p l) (λ x. lock w p x l.indirect)
command w p l verb.Unlock = on_found (object_named w p (all_of l)) (λ x. does w p None (Unlock x))
command w p l verb.Key = on_found (object_named w p (all_of l)) (λ x. Ask (query.View (KeyOf x)))
command w p l verb.Cost = on_found (object_before Is w p l) (λ x. cost w p x l.indirect)
command w p l verb.Rename = on_found (object_before To w p l) (λ x. rename w p x l.indirect)
command w p l verb.Recycle = on_found (object_named w p (all_of l)) (λ x. does w p None (Recycle x))
command w p l verb.Route = on_found (journey_of w p l (Some verb.Route)) (λ journey. Ask (query.Journey journey))
command w p l verb.Meet = on_found (journey_of w p l (Some verb.Meet)) (λ journey. Ask (query.Journey journey))
command w p l verb.Proof =
    let line = parse_of l.rest in
    on_found (journey_of w p line (verb_named line.verb)) (λ journey. Ask (query.Proof journey))
command w p l verb.Version = if_shaped (is_empty l.args) (Ask (query.View Version))
command w p l verb.History = if_shaped (is_empty l.args) (Ask query.History)
command w p l verb.Quit = if_shaped (is_empty l.args) (Ask (query.View Quit))

-- any other line: the single exit of the player's room that has the words of the whole line as a name
abbrev pub other_line : State → ℕ → Line → Verdict
other_line w p l =
    let exits = option_map_or (leaving_of w) (place_of w p) [] in
    on_found (object_meant NotUnderstood (sole_like Equal w (join_with_byte SPACE (l.verb ∷ l.args)) exits))
    (λ x. does w p None (Walk x))

-- a guest, who is not a player, has only `connect` and `quit`
abbrev pub guest : State → Line → Option Verb → Verdict
guest w l (Some verb.Connect) = connect_line w l
guest w l (Some verb.Quit) = if_shaped (is_empty l.args) (Ask (query.View Quit))
guest w l other = Refused NotUnderstood

-- the verdict for a line of a player or of a guest
unfoldable pub decision : State → Option ℕ → Line → Verdict
decision w None l = guest w l (verb_named l.verb)
decision w (Some p) l = option_map_or (command w p l) (verb_named l.verb) (other_line w p l)

-- ---- questions

-- the verbs of questions
abbrev pub asks : Verb → Bool
asks verb.Look = true
asks verb.Inventory = true
asks verb.Key = true
asks verb.Route = true
asks verb.Meet = true
asks verb.Proof = true
asks verb.Version = true
asks verb.History = true
asks verb.Quit = true
asks other = false

-- the line has the verb of a question
abbrev pub is_question : Line → Bool
is_question l = option_map_or asks (verb_named l.verb) false

-- the line is `quit` without more words
abbrev pub is_quit : Line → Bool
is_quit l = is_empty l.args && str_eq_ignore_ascii_case l.verb (codes "quit")
