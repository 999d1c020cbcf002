-- Laws of the definitions.
use mathlib.Core.List.{IsPrefix}
use Rattle.std.specs.Prelude.{◌≡◌, ◌⊎◌, ℕ, Bool, true, false, Option, Some, List, [], ◌∷◌, ◌++◌, map, All, length}
use Rattle.std.specs.List.{flat_map}
use Rattle.mud_nvt.specs.Units.{units}
use Rattle.mud_nvt.specs.History.{StandsAfter}
use Rattle.mud_chron.specs.Entry.{Entry}
use Rattle.mud_hall.specs.Notices.{notices}
use Rattle.mud_hall.specs.Desk.{DeskState, TakesIn}
use Rattle.mud_hall.specs.Steps.{Call, See, Act, Ask, Told, Hall, lone_desk, opened_alone, At, IsRun, PerformsAll}
use Rattle.mud_session.specs.Session.{TakesNone, Case, Rests, Looks, Fails, Asks, Acts, Turn, Play, text_of}
use Rattle.mud_session.specs.State.{SessionState, DoorState}
use Rattle.mud_session.specs.Feeds.{Feeds, Nudges}
use Rattle.mud_session.specs.Talks.{IsTalk, Start, next_start, as_begun}
use Rattle.mud_session.specs.Notices.{NamesUpTo, IsNotice}

-- an allocation failed for the line
abbrev pub fails : Case → Bool
fails (Fails line) = true
fails other = false

-- two plays of the same bytes at a single-user desk, with failed allocations for the same lines, have equal output
abbrev pub ScriptTextIsOne : Type 0
ScriptTextIsOne =
    (capacity : ℕ) (bytes : List ℕ) (one other : DeskState)
    (p : Play TakesNone capacity lone_desk (units bytes) one)
    (q : Play TakesNone capacity lone_desk (units bytes) other)
    → map (λ turn. fails turn.case) p.turns ≡ map (λ turn. fails turn.case) q.turns
    → text_of p.turns ≡ text_of q.turns

-- a desk saw entries of others, and made at most one; the notices sent and remaining are its notices before, and those
-- of the entries seen
pub record IsToldOnce (old : DeskState) (lines : List (List ℕ)) (new : DeskState) : Type 0 where
  pub others : List Entry
  pub own : List Entry
  pub seen : new.seen ≡ old.seen ++ (others ++ own)
  pub mine : (own ≡ []) ⊎ ((e : Entry) × (own ≡ e ∷ []) × (e.desk ≡ old.number))
  pub told : old.told ++ notices old.player old.seen others ≡ lines ++ new.told

-- ---- turns are calls

-- the calls of a turn at its desk: it hands out the notices
abbrev pub calls_of : List (List ℕ) → Case → List Call
calls_of lines (Rests unit) = []
calls_of lines Looks = See ∷ Told lines ∷ []
calls_of lines (Fails line) = See ∷ Told lines ∷ []
calls_of lines (Asks line answer) = See ∷ Told lines ∷ Ask line (Some answer) ∷ []
calls_of lines (Acts line reply) = Act line reply ∷ Told lines ∷ []

-- the calls of these turns
abbrev pub all_calls : List Turn → List Call
all_calls turns = flat_map (λ turn. calls_of turn.notices turn.case) turns

-- the turns of a script are successive calls at desk 1 of the single-user hall: a run of that hall
pub record AreScript (capacity : ℕ) (turns : List Turn) (new : DeskState) : Type 0 where
  pub hall : Hall
  pub run : IsRun capacity [] opened_alone (map (At 1) (all_calls turns)) hall
  pub desk : hall.desks 1 ≡ Some new

-- ---- the output from the greeting on, at one hall after another

-- a talk begins where its start says, continues with input and looks, and loses nothing when output is taken, or at its
-- next hall. So the output is a prefix of the greeting and the text of turns, and the turns at a hall are calls of its
-- desk
pub record TalksGoOn (capacity : ℕ) (start : Start) : Type 0 where
  pub begins : (typed sent : List ℕ) (session : SessionState) (desk : DeskState) → StandsAfter session.terminal typed
      → session.has_ended ≡ false → units typed ≡ start.units → start.text ≡ sent ++ session.out
      → IsTalk capacity start typed sent session (as_begun start.player desk)
  pub sends : (typed sent : List ℕ) (session : SessionState) (desk : DeskState)
      → IsTalk capacity start typed sent session desk
      → IsTalk capacity start typed (sent ++ session.out) (record session { out = [] }) desk
  pub feeds : (typed sent bytes : List ℕ) (old new : SessionState) (was is : DoorState) → was.capacity ≡ capacity
      → IsTalk capacity start typed sent old was.desk → Feeds TakesIn typed bytes old new was is
      → IsTalk capacity start (typed ++ bytes) sent new is.desk
  pub nudges : (typed sent : List ℕ) (old new : SessionState) (was is : DoorState) → was.capacity ≡ capacity
      → IsTalk capacity start typed sent old was.desk → Nudges TakesIn old new was is
      → IsTalk capacity start typed sent new is.desk
  pub moves : (typed sent : List ℕ) (session : SessionState) (desk next : DeskState) (room : ℕ) (player : Option ℕ)
      → session.has_ended ≡ false → (t : IsTalk capacity start typed sent session desk)
      → IsTalk room (next_start start t.turns player) typed sent session (as_begun player next)
  pub front : (typed sent : List ℕ) (session : SessionState) (desk : DeskState)
      → (t : IsTalk capacity start typed sent session desk) → IsPrefix sent (start.text ++ text_of t.turns)
  pub calls : (typed sent : List ℕ) (session : SessionState) (desk : DeskState)
      → (t : IsTalk capacity start typed sent session desk) → PerformsAll capacity t.first (all_calls t.turns) desk

-- ---- versions

-- a session that received these bytes names no version beyond the entries that its desk has seen, in its output or its
-- notices
pub record NamesSeen (session : SessionState) (desk : DeskState) : Type 0 where
  pub earlier : List ℕ
  pub stands : StandsAfter session.terminal earlier
  pub out : NamesUpTo (length desk.seen) session.out
  pub told : All (IsNotice (length desk.seen)) desk.told
