-- If a text can't be read, the line is refused for an earlier reason, or by its own refusal.
use Rattle.std.proofs.Common.{◌≡◌, ℕ, Bool, true, false, cond, List, [], ◌∷◌, ◌++◌, Option, Some, None, refl, sym}
use Rattle.std.proofs.Common.{◌∙◌, ap, drop}
use Rattle.std.specs.Prelude.{find, not, ◌||◌, unwrap_or, if◌then◌else◌}
use Rattle.std.specs.Option.{option_map_or}
use Rattle.mud_key.specs.Tree.{Tree}
use Rattle.mud_world.specs.declared.change.Change.{Change}
use Rattle.mud_world.specs.declared.change.Deed.{Deed}
use Rattle.mud_world.specs.declared.change.Deed.TheVariants.{Dig, Make, Lock, Cost, Rename, Say, Emote}
use Rattle.mud_world.specs.declared.change.Target.{Target}
use Rattle.mud_world.specs.declared.change.Target.TheVariants.{New, Old}
use Rattle.mud_world.specs.declared.change.Doors.{Doors}
use Rattle.mud_world.specs.declared.refusal.Refusal.{Refusal}
use Rattle.mud_world.specs.declared.refusal.Refusal.TheVariants.{NoSuch, WrongKind, NotHere, Denied, BadName, NameTaken}
use Rattle.mud_world.specs.declared.refusal.Refusal.TheVariants.{BadKey, KeyNesting, BadCost, RecursiveMove, LockedExit}
use Rattle.mud_world.specs.declared.refusal.Refusal.TheVariants.{LockedRoom, LockedThing, InUse, WorldFull}
use Rattle.mud_world.specs.Refusals.{lesser}
use Rattle.mud_world.specs.Speech.{is_speech}
use Rattle.mud_world.specs.State.{State, exists, is_room, is_exit, is_player}
use Rattle.mud_world.specs.Conditions.{owns}
use Rattle.mud_world.specs.Legal.{fails, refusal}
use Rattle.mud_rules.specs.declared.verdict.Verdict.TheVariants.{Change as Changes, Refused}
use Rattle.mud_rules.specs.Outcome.{outcome, does}
use Rattle.mud_rules.specs.inner.Bars.{all_refusals, refuses, no_player, no_room, not_his}
use Rattle.mud_rules.proofs.Least.{Agree, lesser-agree}
use Rattle.mud_rules.proofs.Ordered.{outcome_is, outcome_first}

-- the line is refused by what stops p already, or else by its own refusal
abbrev pub IsBarred : State → ℕ → Option Refusal → Refusal → Deed → Type 0
IsBarred w p bar own deed = Refused (unwrap_or bar own) ≡ does w p (Some own) deed

abbrev before_name : List Refusal
before_name = NoSuch ∷ WrongKind ∷ NotHere ∷ Denied ∷ []

abbrev before_key : List Refusal
before_key = NoSuch ∷ WrongKind ∷ NotHere ∷ Denied ∷ BadName ∷ NameTaken ∷ []

abbrev before_cost : List Refusal
before_cost = NoSuch ∷ WrongKind ∷ NotHere ∷ Denied ∷ BadName ∷ NameTaken ∷ BadKey ∷ KeyNesting ∷ []

abbrev done : ℕ → Deed → Change
done p deed = record { actor = p; deed = deed }

-- the tests before the texts are read
abbrev tests : Bool → Bool → Bool → Refusal → Bool
tests none wrong denied NoSuch = none
tests none wrong denied WrongKind = wrong
tests none wrong denied Denied = denied
tests none wrong denied f = false

abbrev bar : Bool → Bool → Bool → Option Refusal
bar none wrong denied =
    if none then Some NoSuch else if wrong then Some WrongKind else if denied then Some Denied else None

or_false : (b : Bool) → (b || false) ≡ b
or_false true = refl
or_false false = refl

abbrev behind_name : List Refusal
behind_name =
    BadName ∷ NameTaken ∷ BadKey ∷ KeyNesting ∷ BadCost ∷ RecursiveMove ∷ LockedExit ∷ LockedRoom ∷ LockedThing ∷ InUse
    ∷ WorldFull ∷ []

abbrev behind_key : List Refusal
behind_key =
    BadKey ∷ KeyNesting ∷ BadCost ∷ RecursiveMove ∷ LockedExit ∷ LockedRoom ∷ LockedThing ∷ InUse ∷ WorldFull ∷ []

abbrev behind_cost : List Refusal
behind_cost = BadCost ∷ RecursiveMove ∷ LockedExit ∷ LockedRoom ∷ LockedThing ∷ InUse ∷ WorldFull ∷ []

-- the first of the tests is the refusal
name_least : (e : Change) (none wrong denied : Bool) →
    option_map_or Refused (lesser (Some BadName) (find (tests none wrong denied) (before_name ++ behind_name)))
    (Changes e)
    ≡ Refused (unwrap_or (bar none wrong denied) BadName)
name_least e true wrong denied = refl
name_least e false true denied = refl
name_least e false false true = refl
name_least e false false false = refl

key_least : (e : Change) (none wrong denied : Bool) →
    option_map_or Refused (lesser (Some BadKey) (find (tests none wrong denied) (before_key ++ behind_key))) (Changes e)
    ≡ Refused (unwrap_or (bar none wrong denied) BadKey)
key_least e true wrong denied = refl
key_least e false true denied = refl
key_least e false false true = refl
key_least e false false false = refl

cost_least : (e : Change) (none wrong denied : Bool) →
    option_map_or Refused (lesser (Some BadCost) (find (tests none wrong denied) (before_cost ++ behind_cost)))
    (Changes e)
    ≡ Refused (unwrap_or (bar none wrong denied) BadCost)
cost_least e true wrong denied = refl
cost_least e false true denied = refl
cost_least e false false true = refl
cost_least e false false false = refl

by_name : (w : State) (p : ℕ) (deed : Deed) (none wrong denied : Bool)
    → Agree (fails w (done p deed)) (tests none wrong denied) before_name
    → IsBarred w p (bar none wrong denied) BadName deed
unfolding refusal
by_name w p deed none wrong denied same =
    sym (sym (outcome_is w (Some BadName) (done p deed))
    ∙ ap (λ r. option_map_or Refused r (Changes (done p deed)))
    (lesser-agree BadName (fails w (done p deed)) (tests none wrong denied) before_name behind_name same refl)
    ∙ name_least (done p deed) none wrong denied)

by_key : (w : State) (p : ℕ) (deed : Deed) (none wrong denied : Bool)
    → Agree (fails w (done p deed)) (tests none wrong denied) before_key
    → IsBarred w p (bar none wrong denied) BadKey deed
unfolding refusal
by_key w p deed none wrong denied same =
    sym (sym (outcome_is w (Some BadKey) (done p deed))
    ∙ ap (λ r. option_map_or Refused r (Changes (done p deed)))
    (lesser-agree BadKey (fails w (done p deed)) (tests none wrong denied) before_key behind_key same refl)
    ∙ key_least (done p deed) none wrong denied)

by_cost : (w : State) (p : ℕ) (deed : Deed) (none wrong denied : Bool)
    → Agree (fails w (done p deed)) (tests none wrong denied) before_cost
    → IsBarred w p (bar none wrong denied) BadCost deed
unfolding refusal
by_cost w p deed none wrong denied same =
    sym (sym (outcome_is w (Some BadCost) (done p deed))
    ∙ ap (λ r. option_map_or Refused r (Changes (done p deed)))
    (lesser-agree BadCost (fails w (done p deed)) (tests none wrong denied) before_cost behind_cost same refl)
    ∙ cost_least (done p deed) none wrong denied)

-- a deed that only asks for a player of the world
abbrev IsFree : State → ℕ → Deed → Type 0
IsFree w p deed =
    Agree (fails w (done p deed)) (tests (not (exists w p) || false) (not (is_player w p) || false) false) before_name

by_player : (w : State) (p : ℕ) (deed : Deed) → IsFree w p deed → IsBarred w p (no_player w p) BadName deed
by_player w p deed free =
    sym (sym (by_name w p deed (not (exists w p) || false) (not (is_player w p) || false) false free)
    ∙ ap (λ b. Refused (unwrap_or (bar b (not (is_player w p) || false) false) BadName)) (or_false (not (exists w p)))
    ∙ ap (λ b. Refused (unwrap_or (bar (not (exists w p)) b false) BadName)) (or_false (not (is_player w p))))

pub names_barred : (w : State) (p : ℕ) (names : List (List ℕ)) → IsBarred w p (no_player w p) BadName (Make names)
names_barred w p names = by_player w p (Make names) (refl, (refl, (refl, (refl, tt))))

pub renaming_barred : (w : State) (p x : ℕ) (names : List (List ℕ))
    → IsBarred w p (not_his w p x false) BadName (Rename x names)
renaming_barred w p x names =
    by_name w p (Rename x names) (not (exists w p) || not (exists w x)) (not (is_player w p) || false)
    (not (owns w p x))
    (refl, (refl, (refl, (refl, tt))))

pub room_barred : (w : State) (p : ℕ) (names : List (List ℕ)) (doors : Option Doors)
    → IsBarred w p (no_player w p) BadName (Dig (New names) doors)
room_barred w p names doors = by_player w p (Dig (New names) doors) (refl, (refl, (refl, (refl, tt))))

pub exits_barred : (w : State) (p : ℕ) (target : Target) (doors : Doors)
    → IsBarred w p (no_room w p target) BadName (Dig target (Some doors))
exits_barred w p (New names) doors = room_barred w p names (Some doors)
exits_barred w p (Old room) doors =
    by_name w p (Dig (Old room) (Some doors)) (not (exists w p) || not (exists w room))
    (not (is_player w p) || not (is_room w room)) false
    (refl, (ap (λ b. not (is_player w p) || b) (or_false (not (is_room w room))), (refl, (refl, tt))))

pub key_barred : (w : State) (p x : ℕ) (key : Tree ℕ)
    → IsBarred w p (not_his w p x (is_player w x)) BadKey (Lock x key)
key_barred w p x key =
    by_key w p (Lock x key) (not (exists w p) || not (exists w x)) (not (is_player w p) || is_player w x)
    (not (owns w p x))
    (refl, (refl, (refl, (refl, (refl, (refl, tt))))))

pub cost_barred : (w : State) (p x n : ℕ) → IsBarred w p (not_his w p x (not (is_exit w x))) BadCost (Cost x n)
cost_barred w p x n =
    by_cost w p (Cost x n) (not (exists w p) || not (exists w x)) (not (is_player w p) || not (is_exit w x))
    (not (owns w p x))
    (refl, (refl, (refl, (refl, (refl, (refl, (refl, (refl, tt))))))))

-- ---- texts that are not speeches

find-agree : (p q : Refusal → Bool) (fs : List Refusal) → Agree p q fs → find p fs ≡ find q fs
find-agree p q [] same = refl
find-agree p q (f ∷ fs) same =
    ap (λ b. cond b (Some f) (find p fs)) same.0 ∙ ap (λ r. cond (q f) (Some f) r) (find-agree p q fs same.1)

-- a condition of the change that holds is as good as an own refusal
as_own : (w : State) (e : Change) (own : Refusal)
    → Agree (λ f. refuses None f || fails w e f) (λ f. refuses (Some own) f || fails w e f) all_refusals
    → outcome w None e ≡ outcome w (Some own) e
as_own w e own same =
    outcome_first w None e
    ∙ ap (λ r. option_map_or Refused r (Changes e))
    (find-agree (λ f. refuses None f || fails w e f) (λ f. refuses (Some own) f || fails w e f) all_refusals same)
    ∙ sym (outcome_first w (Some own) e)

-- without a valid speech, the condition of BadName holds for the change, and an own refusal makes no difference
agree-but_name : (w : State) (e : Change) → fails w e BadName ≡ true
    → Agree (λ f. refuses None f || fails w e f) (λ f. refuses (Some BadName) f || fails w e f) all_refusals
agree-but_name w e bad = (refl, (refl, (refl, (refl, (refl, (refl, (bad, later)))))))
  where
    later : Agree (λ f. refuses None f || fails w e f) (λ f. refuses (Some BadName) f || fails w e f)
        (drop 7 all_refusals)
    later = (refl, (refl, (refl, (refl, (refl, (refl, (refl, (refl, (refl, (refl, (refl, tt)))))))))))

pub saying_barred : (w : State) (p : ℕ) (text : List ℕ) → is_speech text ≡ false
    → Refused (unwrap_or (no_player w p) BadName) ≡ does w p None (Say text)
saying_barred w p text silent =
    by_player w p (Say text) (refl, (refl, (refl, (refl, tt))))
    ∙ sym (as_own w (done p (Say text)) BadName (agree-but_name w (done p (Say text)) (ap not silent)))

pub emoting_barred : (w : State) (p : ℕ) (text : List ℕ) → is_speech text ≡ false
    → Refused (unwrap_or (no_player w p) BadName) ≡ does w p None (Emote text)
emoting_barred w p text silent =
    by_player w p (Emote text) (refl, (refl, (refl, (refl, tt))))
    ∙ sym (as_own w (done p (Emote text)) BadName (agree-but_name w (done p (Emote text)) (ap not silent)))
