-- The turns of a session are calls of its desk.
use Rattle.std.proofs.Common.{◌≡◌, ℕ, List, [], ◌∷◌, ◌++◌, Some, refl, subst}
use Rattle.mud_words.specs.Parse.{parse_of}
use Rattle.mud_hall.specs.Desk.{DeskState, TakesIn, HandsOut}
use Rattle.mud_hall.specs.Replies.{Reply, Replies}
use Rattle.mud_hall.specs.Answers.{Answered, Answers}
use Rattle.mud_hall.specs.Steps.{Call, See, Act, Ask, Told, Performs, PerformsAll}
use Rattle.mud_session.specs.Session.{TakingIn, Case, Rests, Looks, Fails, Asks, Acts, Turn, Sees, Does, Plays}
use Rattle.mud_session.specs.Laws.{calls_of, all_calls}

-- a property of each call that a turn makes
pub record HoldsOfCalls (T : TakingIn) (P : ℕ → DeskState → Call → DeskState → Type 0) : Type 0 where
  pub sees : (capacity : ℕ) (old new : DeskState) → T old new → P capacity old See new
  pub tells : (capacity : ℕ) (old : DeskState) (lines : List (List ℕ)) (new : DeskState) → HandsOut old lines new
      → P capacity old (Told lines) new
  pub asks : (capacity : ℕ) (old : DeskState) (line : List ℕ) (answer : Answered) → Answers old (parse_of line) answer
      → P capacity old (Ask line (Some answer)) old
  pub acts : (capacity : ℕ) (old ready : DeskState) (line : List ℕ) (reply : Reply) (new : DeskState) → T old ready
      → Replies capacity ready (parse_of line) reply new → P capacity old (Act line reply) new

-- the property holds for successive calls
abbrev pub HoldsOfAll : (DeskState → Call → DeskState → Type 0) → DeskState → List Call → DeskState → Type 0
HoldsOfAll P old [] new = new ≡ old
HoldsOfAll P old (call ∷ calls) new = (now : DeskState) × P old call now × HoldsOfAll P now calls new

goes-on : (P : DeskState → Call → DeskState → Type 0) (a b c : DeskState) (xs ys : List Call) → HoldsOfAll P a xs b
    → HoldsOfAll P b ys c → HoldsOfAll P a (xs ++ ys) c
goes-on P a b c [] ys same more = subst (λ (d : DeskState). HoldsOfAll P d ys c) same more
goes-on P a b c (x ∷ xs) ys (now, does, rest) more = (now, does, goes-on P now b c xs ys rest more)

looked : (T : TakingIn) (P : ℕ → DeskState → Call → DeskState → Type 0) → HoldsOfCalls T P → (capacity : ℕ)
    (old : DeskState) (lines : List (List ℕ)) (new : DeskState) → Sees T old lines new
    → HoldsOfAll (P capacity) old (See ∷ Told lines ∷ []) new
looked T P holds capacity old lines new sees = (
  sees.ready,
  holds.sees capacity old sees.ready sees.takes,
  (new, holds.tells capacity sees.ready lines new sees.tells, refl),
)

turned : (T : TakingIn) (P : ℕ → DeskState → Call → DeskState → Type 0) → HoldsOfCalls T P → (capacity : ℕ)
    (old : DeskState) (case : Case) (lines : List (List ℕ)) (new : DeskState) → Does T capacity old case lines new
    → HoldsOfAll (P capacity) old (calls_of lines case) new
turned T P holds capacity old (Rests unit) lines new does = does.2
turned T P holds capacity old Looks lines new sees = looked T P holds capacity old lines new sees
turned T P holds capacity old (Fails line) lines new does = looked T P holds capacity old lines new does.1
turned T P holds capacity old (Asks line answer) lines new (heard, question, sees, all, answers) =
    goes-on (P capacity) old new new (See ∷ Told lines ∷ []) (Ask line (Some answer) ∷ [])
    (looked T P holds capacity old lines new sees) (new, holds.asks capacity new line answer answers, refl)
turned T P holds capacity old (Acts line reply) lines new (heard, other, acts) = (
  acts.acted,
  holds.acts capacity old acts.ready line reply acts.acted acts.takes acts.replies,
  (new, holds.tells capacity acts.acted lines new acts.tells, refl),
)

-- a property of each call holds for all calls of some turns
pub all_turned : (T : TakingIn) (P : ℕ → DeskState → Call → DeskState → Type 0) → HoldsOfCalls T P → (capacity : ℕ)
    (old new : DeskState) (turns : List Turn) → Plays T capacity old turns new
    → HoldsOfAll (P capacity) old (all_calls turns) new
all_turned T P holds capacity old new [] same = same
all_turned T P holds capacity old new (turn ∷ turns) (mid, does, last, plays) =
    goes-on (P capacity) old mid new (calls_of turn.notices turn.case) (all_calls turns)
    (turned T P holds capacity old turn.case turn.notices mid does)
    (all_turned T P holds capacity mid new turns plays)

-- ---- at a desk of a hall

performed : HoldsOfCalls TakesIn Performs
performed = record {
  sees = λ capacity old new takes. takes;
  tells = λ capacity old lines new hands. hands;
  asks = λ capacity old line answer answers. (answers, refl);
  acts = λ capacity old ready line reply new takes replies.
      record { ready = ready; takes_in = takes; replies = replies };
}

all-performed : (capacity : ℕ) (old : DeskState) (calls : List Call) (new : DeskState)
    → HoldsOfAll (Performs capacity) old calls new → PerformsAll capacity old calls new
all-performed capacity old [] new same = same
all-performed capacity old (call ∷ calls) new (now, does, rest) = (now, does, all-performed capacity now calls new rest)

pub turns_are_calls : (capacity : ℕ) (old new : DeskState) (turns : List Turn) → Plays TakesIn capacity old turns new
    → PerformsAll capacity old (all_calls turns) new
turns_are_calls capacity old new turns plays =
    all-performed capacity old (all_calls turns) new
    (all_turned TakesIn Performs performed capacity old new turns plays)
