-- A hall: one history, many desks, and their steps.
use Rattle.std.specs.Prelude.{◌≡◌, ℕ, ◌+◌, ◌≤◌, ◌⊎◌, nat_eq, if◌then◌else◌}
use Rattle.std.specs.Prelude.{List, [], ◌∷◌, ◌++◌, length, Option, Some, None, Bool, codes}
use Rattle.std.specs.List.{AllByRecursion}
use mathlib.Core.List.{IsPrefix}
use Rattle.mud_words.specs.Parse.{parse_of}
use Rattle.mud_chron.specs.Entry.{Entry, IsEntry}
use Rattle.mud_chron.specs.Replay.{changes_of, AreLegal}
use Rattle.mud_hall.specs.Desk.{DeskState, new_desk, as_guest, as_player, TakesIn, Learns, HandsOut, IsNew}
use Rattle.mud_hall.specs.Replies.{Reply, Accepted, Acts}
use Rattle.mud_hall.specs.Answers.{Answered, Answers}

-- ---- the calls of a desk

-- a call of a desk, with its result
pub data Call : Type 0 where
  See : Call
  Act : (line : List ℕ) → (reply : Reply) → Call
  Ask : (line : List ℕ) → (answer : Option Answered) → Call
  Guest : Call
  Told : (lines : List (List ℕ)) → Call

-- the effect of a call on its desk; an answer is by what the desk has seen, and there is none if an allocation fails
abbrev pub Performs : ℕ → DeskState → Call → DeskState → Type 0
Performs capacity was See is = TakesIn was is
Performs capacity was (Act line reply) is = Acts capacity was (parse_of line) reply is
Performs capacity was (Ask line None) is = is ≡ was
Performs capacity was (Ask line (Some a)) is = Answers was (parse_of line) a × (is ≡ was)
Performs capacity was Guest is = is ≡ as_guest was
Performs capacity was (Told lines) is = HandsOut was lines is

-- successive calls
abbrev pub PerformsAll : ℕ → DeskState → List Call → DeskState → Type 0
PerformsAll capacity was [] is = is ≡ was
PerformsAll capacity was (call ∷ calls) is =
    (now : DeskState) × Performs capacity was call now × PerformsAll capacity now calls is

-- ---- a player at another hall

-- the line by which a player with this name connects
abbrev pub connect_text : List ℕ → List ℕ
connect_text name = codes "connect \"" ++ name ++ codes "\""

-- the call makes the desk a guest's, or connects a player
abbrev pub IsSeating : Call → Type 0
IsSeating Guest = Unit {0}
IsSeating (Act line reply) = (name : List ℕ) × (line ≡ connect_text name)
IsSeating other = ⊥

-- by such calls the desk became this player's, or a guest's if it does not sit; it has no notices
pub record IsSeated (capacity : ℕ) (player : Option ℕ) (sits : Bool) (old new : DeskState) : Type 0 where
  pub calls : List Call
  pub performs : PerformsAll capacity old calls new
  pub only : AllByRecursion IsSeating calls
  pub is : new.player ≡ (if sits then player else None)
  pub told : new.told ≡ []

-- ---- the initial hall

-- a hall: its history, the number of desks given, and each desk by its number
pub record Hall : Type 0 where
  pub history : List Entry
  pub given : ℕ
  pub desks : ℕ → Option DeskState

-- the entries that a hall can begin with: each is legal in turn, and the history has room for them
pub record AreLoadable (capacity : ℕ) (entries : List Entry) : Type 0 where
  pub each : AllByRecursion IsEntry entries
  pub legal : AreLegal (changes_of entries)
  pub few : length entries ≤ capacity

-- at first the history is the loaded entries, and there is no desk
abbrev pub hall_begun : List Entry → Hall
hall_begun loaded = record { history = loaded; given = 0; desks = λ s. None }

-- the hall with this history, and with this desk as number s
abbrev pub seats : Hall → List Entry → ℕ → DeskState → Hall
seats hall history s d =
    record { history = history; given = hall.given; desks = λ t. if nat_eq t s then Some d else hall.desks t }

-- the wizard is at desk 1, which has seen nothing
abbrev pub lone_desk : DeskState
lone_desk = as_player (new_desk 1 []) 1

-- the single-user hall
abbrev pub opened_alone : Hall
opened_alone = record (seats (hall_begun []) [] 1 lone_desk) { given = 1 }

-- a hall begins with the loaded entries and no desk, or with one desk and no loaded entries
abbrev pub Begins : ℕ → List Entry → Hall → Type 0
Begins capacity loaded hall =
    (AreLoadable capacity loaded × (hall ≡ hall_begun loaded)) ⊎ ((loaded ≡ []) × (hall ≡ opened_alone))

-- ---- its steps

-- a desk is given, a desk learns from another, or a call is made at a desk; desks are named by their numbers
pub data HallStep : Type 0 where
  Desk : (s : ℕ) → HallStep
  Learn : (s : ℕ) → (t : ℕ) → HallStep
  At : (s : ℕ) → (call : Call) → HallStep

-- desk s changes in this way, and what it has seen is a prefix of the history; no other desk changes
pub record Turns (old : Hall) (s : ℕ) (was is : DeskState) (new : Hall) : Type 0 where
  pub before : old.desks s ≡ Some was
  pub known : IsPrefix is.seen new.history
  pub after : new ≡ seats old new.history s is

-- the history after a call: an accepted change is appended, and the desk has seen all; else the history stays
abbrev pub Grows : Call → List Entry → DeskState → List Entry → Type 0
Grows (Act line (Accepted version text)) old is new = (e : Entry) × (new ≡ old ++ e ∷ []) × (is.seen ≡ new)
Grows other old is new = new ≡ old

-- the effect of a step on a hall; a new desk has the next number, and has seen a prefix of the history
abbrev pub Makes : ℕ → List Entry → Hall → HallStep → Hall → Type 0
Makes capacity loaded old (Desk s) new =
    (is : DeskState) × IsNew loaded is × (is.number ≡ s) × (s ≡ old.given + 1) × IsPrefix is.seen old.history
    × (new ≡ record (seats old old.history s is) { given = s })
Makes capacity loaded old (Learn s t) new =
    (was : DeskState) × (is : DeskState) × (other : DeskState) × Turns old s was is new × (new.history ≡ old.history)
    × (old.desks t ≡ Some other) × Learns was other is
Makes capacity loaded old (At s call) new =
    (was : DeskState) × (is : DeskState) × Turns old s was is new × Grows call old.history is new.history
    × Performs capacity was call is

-- successive steps
abbrev pub IsRun : ℕ → List Entry → Hall → List HallStep → Hall → Type 0
IsRun capacity loaded old [] new = old ≡ new
IsRun capacity loaded old (step ∷ steps) new =
    (hall : Hall) × Makes capacity loaded old step hall × IsRun capacity loaded hall steps new
