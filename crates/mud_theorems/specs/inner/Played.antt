-- One player's part, where the desk is seen and its calls are not.
use Rattle.std.specs.Prelude.{◌≡◌, ℕ, List}
use Rattle.mud_chron.specs.Entry.{Entry}
use Rattle.mud_hall.specs.Desk.{DeskState}
use Rattle.mud_theorems.specs.declared.transcript.Transcript.{Transcript}
use Rattle.mud_theorems.specs.Runs.{Work, IsWork}
use Rattle.mud_theorems.specs.Transcripts.{IsTranscript}

-- the transcript was played at a desk that was new, and is so then
pub record HasPlayed (capacity : ℕ) (loaded : List Entry) (desk : DeskState) (t : Transcript) : Type 0 where
  pub work : Work
  pub desk_is : work.desk ≡ desk
  pub is : IsWork capacity loaded work
  pub transcript : IsTranscript capacity work t
