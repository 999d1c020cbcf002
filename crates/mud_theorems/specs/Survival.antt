-- The history that is found after a crash, and the answers that still hold in it.
use Rattle.std.specs.Prelude.{◌≡◌, ◌≤◌, ℕ, List, ◌++◌, length, take, Option, IfSome}
use mathlib.Core.List.{IsPrefix}
use Rattle.mud_words.specs.Parse.{parse_of}
use Rattle.mud_world.specs.declared.limits.TheConstants.{MOST_ENTRIES}
use Rattle.mud_chron.specs.Entry.{Entry}
use Rattle.mud_journal.specs.Crash.{IsLeftOf}
use Rattle.mud_hall.specs.Replies.{verdict_on}
use Rattle.mud_hall.specs.Answers.{Answered, Shows}
use Rattle.mud_hall.specs.Right.{IsAcceptedWith}
use Rattle.mud_hall.specs.Steps.{Call, Hall, AreLoadable, HallStep, At, IsRun, Makes}
use Rattle.mud_hall.specs.Laws.{IsRight}

-- a crash left these bytes of the journal of this history: its first entries were synced, others were being added
pub record IsCrashOf (history synced : List Entry) (bytes : List ℕ) : Type 0 where
  pub added : List Entry
  pub mine : IsPrefix (synced ++ added) history
  pub left : IsLeftOf bytes synced added

-- the history found has all synced entries and is a prefix of the history, and a hall can begin with it; so each synced
-- version has the entries that it had
pub record IsBack (capacity : ℕ) (history synced got : List Entry) : Type 0 where
  pub all : IsPrefix synced got
  pub only : IsPrefix got history
  pub loadable : AreLoadable capacity got
  pub same : (v : ℕ) → v ≤ length synced → take v got ≡ take v history

-- a run made this call at desk s, came to the hall `next`, and continued to this hall
pub record WasCalled (capacity : ℕ) (loaded : List Entry) (begin : Hall) (s : ℕ) (call : Call) (next hall : Hall)
    : Type 0 where
  pub before : List HallStep
  pub old : Hall
  pub ran : IsRun capacity loaded begin before old
  pub makes : Makes capacity loaded old (At s call) next
  pub after : List HallStep
  pub goes_on : IsRun capacity loaded next after hall

-- the answer to a player's line is the answer by as many first entries of the history found, and is right for them. The
-- checker accepts its certificate with the history found, and with each legal history that continues it
pub record StillHolds (got : List Entry) (player : Option ℕ) (line : List ℕ) (a : Answered) : Type 0 where
  pub there : a.version ≤ length got
  pub shows : Shows (take a.version got) player (verdict_on (take a.version got) player (parse_of line)) a
  pub right : IsRight (take a.version got) player (verdict_on (take a.version got) player (parse_of line)) a
  pub now : IfSome a.cert (IsAcceptedWith got)
  pub later : (g : List Entry) → IsPrefix got g → AreLoadable MOST_ENTRIES g → IfSome a.cert (IsAcceptedWith g)
