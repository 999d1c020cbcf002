-- Laws of the definitions: the calls of many desks, the history after a crash, changes by owners, texts of routes, and
-- the frames and sizes of sessions.
use mathlib.Core.List.{IsPrefix}
use Rattle.std.specs.Prelude.{◌≡◌, ◌≤◌, ◌⊎◌, ℕ, List, [], ◌++◌, length, map, take, string_bytes, None, Some}
use Rattle.std.specs.Prelude.{IsTrue, All}
use Rattle.std.specs.Str.{IsAscii}
use Rattle.mud_world.specs.declared.change.Change.{Change}
use Rattle.mud_world.specs.declared.record.Record.{Record}
use Rattle.mud_world.specs.State.{State, record_at}
use Rattle.mud_world.specs.Sound.{IsSound}
use Rattle.mud_world.specs.Conditions.{owns}
use Rattle.mud_world.specs.Legal.{refusal, after}
use Rattle.mud_chron.specs.Entry.{Entry}
use Rattle.mud_journal.specs.Found.{Finds}
use Rattle.mud_journal.specs.OpenFaults.{IsRefusedAs}
use Rattle.mud_journal.specs.declared.fault.OpenFault.{OpenFault}
use Rattle.mud_journal.specs.declared.fault.OpenFault.TheVariants.{OutOfMemory}
use Rattle.mud_guide.specs.declared.answer.Answer.{Answer}
use Rattle.mud_guide.specs.Answers.{IsRouteAnswer, IsMeetAnswer}
use Rattle.mud_guide.specs.Laws.{AreAlike}
use Rattle.mud_hall.specs.Desk.{DeskState, View}
use Rattle.mud_hall.specs.Replies.{Accepted}
use Rattle.mud_hall.specs.Answers.{Answered}
use Rattle.mud_hall.specs.Settlement.{IsSettled}
use Rattle.mud_hall.specs.Steps.{Hall, AreLoadable, Begins, HallStep, Act, Ask, IsRun}
use Rattle.mud_session.specs.Notices.{NamesUpTo}
use Rattle.mud_session.specs.Session.{text_of}
use Rattle.mud_session.specs.Talks.{greeting}
use Rattle.mud_web.specs.Channel.{Standing}
use Rattle.mud_client.specs.declared.framing.Framing.TheVariants.{Web}
use Rattle.mud_client.specs.Client.{ClientState, Stands}
use Rattle.mud_client.specs.Steps.{Output, Steps, Looks}
use Rattle.mud_theorems.specs.Runs.{Work, IsWork, AreOneRun}
use Rattle.mud_theorems.specs.Owning.{moves, IsMoved}
use Rattle.mud_theorems.specs.Survival.{IsCrashOf, IsBack, WasCalled, StillHolds}
use Rattle.mud_theorems.specs.Browsers.{Message, IsMessage, frames_by, lines_by, ReadsText}
use Rattle.mud_theorems.specs.Sizes.{IsSmall}

-- The calls of any threads at the desks of a settled hall are one run of the hall, and a hall can begin with its
-- history.
abbrev pub ThreadsMakeRuns : Type 0
ThreadsMakeRuns =
    (capacity : ℕ) (loaded history : List Entry) (desks : List View) (works : List Work)
    → IsSettled loaded desks history → map (λ d. d.state) desks ≡ map (λ w. w.desk) works
    → All (IsWork capacity loaded) works
    → AreOneRun capacity loaded history works × (AreLoadable capacity loaded → AreLoadable capacity history)

-- The journal of a hall can be read after any crash. The history found ends at some version, and not before the last
-- synced one. A text that names no version after the synced one names no version that is not found. Each change that
-- was accepted by then is there, and each answer by such a version still holds.
abbrev pub WhatWasToldLasts : Type 0
WhatWasToldLasts =
    (capacity : ℕ) (loaded : List Entry) (begin : Hall) → Begins capacity loaded begin
    → (steps : List HallStep) (hall : Hall) → IsRun capacity loaded begin steps hall
    → (synced : List Entry) (bytes : List ℕ) → IsCrashOf hall.history synced bytes
    → ((fault : OpenFault) → IsRefusedAs bytes fault → fault ≡ OutOfMemory)
    × ((got : List Entry) (torn : ℕ) → Finds bytes got torn → IsBack capacity hall.history synced got
    × ((text : List ℕ) → NamesUpTo (length synced) text → NamesUpTo (length got) text)
    × ((s v : ℕ) (line text : List ℕ) (next : Hall)
    → WasCalled capacity loaded begin s (Act line (Accepted v text)) next hall → v ≤ length synced
    → take v got ≡ next.history)
    × ((s : ℕ) (line : List ℕ) (a : Answered) (next : Hall) (d : DeskState)
    → WasCalled capacity loaded begin s (Ask line (Some a)) next hall → a.version ≤ length synced
    → next.desks s ≡ Some d → StillHolds got d.player line a))

-- A legal change leaves an object as it was, unless its actor owns the object or is #1, or the change moves it. A moved
-- object has another place, and is otherwise as it was.
abbrev pub OnlyOwnersChange : Type 0
OnlyOwnersChange =
    (w : State) (e : Change) (o : ℕ) (r : Record) → refusal w e ≡ None → record_at w o ≡ Some r
    → (record_at (after w e) o ≡ Some r) ⊎ IsTrue (owns w e.actor o)
    ⊎ (IsTrue (moves e.actor e.deed o) × IsMoved (after w e) o r)

-- Two routes in one world with one text go the same way between the same rooms.
abbrev pub RouteTextIsOne : Type 0
RouteTextIsOne =
    (w : State) → IsSound w → (u v p q to room : ℕ) (a b : Answer)
    → (x : IsRouteAnswer w u p to a) → (y : IsRouteAnswer w v q room b) → string_bytes a.text ≡ string_bytes b.text
    → (to ≡ room) × (x.leg.from ≡ y.leg.from) × (x.leg.way ≡ y.leg.way)

-- Two meetings in one world with one text are of one party, and their answers are equal.
abbrev pub MeetTextIsOne : Type 0
MeetTextIsOne =
    (w : State) → IsSound w → (v : ℕ) (party others : List ℕ) (a b : Answer)
    → IsMeetAnswer w v party a → IsMeetAnswer w v others b → string_bytes a.text ≡ string_bytes b.text
    → (party ≡ others) × AreAlike a b

-- The messages of a browser are the lines of its session: those fed to the session, and those that wait. The browser
-- reads the output as text messages, which concatenate to a prefix of the greeting and the text of the session's turns.
-- The law needs output in ASCII, and a client sends no other.
abbrev pub BrowsersTypeLines : Type 0
BrowsersTypeLines =
    (messages : List Message) → All IsMessage messages
    → (sent : List ℕ) (client : ClientState) (channel : Standing) → client.framing ≡ Web channel
    → (s : Stands (frames_by messages) sent client) → IsAscii s.said
    → (s.typed ++ client.waiting ≡ lines_by messages) × ReadsText sent s.said
    × IsPrefix s.said (greeting ++ text_of s.talk.turns)

-- The session of a client is small at the beginning, and after each step and each look.
abbrev pub SessionsAreSmall : Type 0
SessionsAreSmall =
    ((client : ClientState) → Stands [] [] client → IsSmall client.session)
    × ((came sent bytes : List ℕ) (old new : ClientState) (out : Output) → Stands came sent old → IsSmall old.session
    → (Steps bytes old new out → IsSmall new.session) × (Looks old new out → IsSmall new.session))
