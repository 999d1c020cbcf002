-- The input and output of players, as one run of their hall.
use Rattle.std.specs.Prelude.{◌≡◌, ℕ, true, ◌⊎◌, List, [], ◌++◌}
use Rattle.std.specs.List.{AllZip}
use Rattle.mud_nvt.specs.Units.{units}
use Rattle.mud_chron.specs.Entry.{Entry}
use Rattle.mud_hall.specs.Desk.{TakesIn}
use Rattle.mud_session.specs.Session.{Play, is_over, text_of}
use Rattle.mud_session.specs.Talks.{greeting}
use Rattle.mud_session.specs.Laws.{all_calls}
use Rattle.mud_theorems.specs.declared.transcript.Transcript.{Transcript}
use Rattle.mud_theorems.specs.Runs.{Work, AreOneRun}

-- the desk played all input, or all up to an answered `quit`. The calls of these turns are those of the desk, and the
-- output is the greeting and their text
pub record IsTranscript (capacity : ℕ) (work : Work) (t : Transcript) : Type 0 where
  pub play : Play TakesIn capacity work.first (units t.typed.items) work.desk
  pub done : (play.left ≡ []) ⊎ (is_over play.turns ≡ true)
  pub calls : work.calls ≡ all_calls play.turns
  pub says : t.sent.items ≡ greeting ++ text_of play.turns

-- one run of a hall, which ends with this history: each transcript is its part at a desk of its own
pub record ArePlayed (capacity : ℕ) (loaded history : List Entry) (transcripts : List Transcript) : Type 0 where
  pub works : List Work
  pub run : AreOneRun capacity loaded history works
  pub each : AllZip (IsTranscript capacity) works transcripts
