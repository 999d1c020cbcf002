-- Connections that are served at once, each at a desk of its own, and the journal of their hall.
use Rattle.std.specs.Prelude.{◌≡◌, ◌⊎◌, ℕ, Bool, true, List, [], ◌∷◌, ◌++◌, length, Option, IfSome, All}
use Rattle.std.specs.List.{flat_map, AllZip}
use mathlib.Core.List.{IsPrefix}
use Rattle.mud_nvt.specs.Units.{Given, units}
use Rattle.mud_chron.specs.Entry.{Entry}
use Rattle.mud_journal.specs.Crash.{IsLeftBy}
use Rattle.mud_hall.specs.Desk.{DeskState, TakesIn}
use Rattle.mud_hall.specs.Steps.{Guest}
use Rattle.mud_session.specs.Session.{Turn, Plays, is_over, text_of}
use Rattle.mud_session.specs.Talks.{greeting, units_of}
use Rattle.mud_session.specs.Laws.{all_calls}
use Rattle.mud_client.specs.Sayings.{SaysUpTo}
use Rattle.mud_theorems.specs.Runs.{Work, AreOneRun}
use Rattle.mud_theorems.specs.Peers.{Traffic}

-- All was said to the peer: each byte came and was read, up to an answered `quit`, and the whole text was sent
pub record IsDone (read text : List ℕ) (turns : List Turn) (t : Traffic) : Type 0 where
  pub all : (is_over turns ≡ true) ⊎ ((t.has_ended ≡ true) × (t.came ≡ read))
  pub sent : t.sent ≡ text

-- The desk played the bytes that were read, up to an answered `quit`, and looked for changes of others. The calls of
-- these turns are the desk's, which is a guest's again then. A prefix of the greeting and of their text was sent.
-- Unless the journal has failed or the peer took no more, nothing is left
pub record IsServed (capacity : ℕ) (has_failed : Bool) (work : Work) (t : Traffic) : Type 0 where
  pub read : List ℕ
  pub front : IsPrefix read t.came
  pub turns : List Turn
  pub desk : DeskState
  pub plays : Plays TakesIn capacity work.first turns desk
  pub calls : work.calls ≡ all_calls turns ++ Guest ∷ []
  pub left : List Given
  pub given : units read ≡ units_of turns ++ left
  pub played : (left ≡ []) ⊎ (is_over turns ≡ true)
  pub says : IsPrefix t.sent (greeting ++ text_of turns)
  pub done : (has_failed ≡ true) ⊎ (t.has_left ≡ true) ⊎ IsDone read (greeting ++ text_of turns) turns t

-- one run of a hall, which ends with this history: each connection is a desk of its own in it
pub record AreServed (capacity : ℕ) (loaded history : List Entry) (has_failed : Bool) (traffics : List (Option Traffic))
    : Type 0 where
  pub works : List Work
  pub run : AreOneRun capacity loaded history works
  pub each : AllZip (λ work traffic. IfSome traffic (IsServed capacity has_failed work)) works traffics

-- the bytes are a prefix of texts, none of which names a version above `most`
pub record TellsUpTo (most : ℕ) (sent : List ℕ) : Type 0 where
  pub texts : List (List ℕ)
  pub each : All (SaysUpTo most) texts
  pub front : IsPrefix sent (flat_map (λ text. text) texts)

-- a crash left these bytes of the journal of this history: its first entries were synced, and others were being added.
-- No text that was sent to a connection names a version after the synced ones
pub record IsLeftWithTold (Tears : List ℕ → List ℕ → Type 0) (history : List Entry) (traffics : List (Option Traffic))
    (bytes : List ℕ) : Type 0 where
  pub synced : List Entry
  pub added : List Entry
  pub whole : synced ++ added ≡ history
  pub left : IsLeftBy Tears bytes synced added
  pub told : All (λ traffic. IfSome traffic (λ t. TellsUpTo (length synced) t.sent)) traffics
