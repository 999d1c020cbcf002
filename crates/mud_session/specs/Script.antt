-- The input, the turns and the output of a script, at any door, and the history of one that continues entries.
use Rattle.std.specs.Prelude.{◌≡◌, ◌≤◌, ℕ, true, false, if◌then◌else◌, ◌⊎◌, List, [], ◌∷◌, ◌++◌, length, take}
use Rattle.std.specs.Io.KnownBytes.{Appends, Consumes, IsAtEnd}
use Rattle.mud_nvt.specs.declared.codes.TheConstants.{LF}
use Rattle.mud_nvt.specs.Units.{units}
use Rattle.mud_io.specs.Streams.{Reader, Writer}
use Rattle.mud_io.specs.declared.source.TheConstants.{MOST_READS}
use Rattle.mud_chron.specs.Entry.{Entry}
use Rattle.mud_hall.specs.Desk.{DeskState}
use Rattle.mud_hall.specs.Alone.{Alone, IsResumed, IsResumeFault}
use Rattle.mud_session.specs.Session.{TakingIn, TakesNone, Play, is_over, text_of}
use Rattle.mud_session.specs.declared.scripting.ScriptFault.{ScriptFault}
use Rattle.mud_session.specs.declared.scripting.ScriptFault.TheVariants as stops
use Rattle.mud_session.specs.declared.scripting.ContinueFault.{ContinueFault}
use Rattle.mud_session.specs.declared.scripting.ContinueFault.TheVariants.{NotResumed, Stopped}

-- the turns of a session that began at the start, for the bytes read and, if the end was seen, one more line feed
pub record Script (takes_in : TakingIn) (capacity : ℕ) (start : DeskState) (old new : Reader) : Type 0 where
  pub bytes : List ℕ
  pub read : Consumes old.left new.left bytes
  pub end : new.at_end ≡ true → IsAtEnd new.left
  pub desk : DeskState
  pub play : Play takes_in capacity start (units (if new.at_end then bytes ++ LF ∷ [] else bytes)) desk

-- the whole output was written. The end was seen and each unit had its turn, or `quit` was answered
pub record IsWhole (takes_in : TakingIn) (capacity : ℕ) (start : DeskState) (reader read : Reader)
    (writer written : Writer) : Type 0 where
  pub script : Script takes_in capacity start reader read
  pub writes : Appends writer.holds written.holds (text_of script.play.turns)
  pub done : ((read.at_end ≡ true) × (script.play.left ≡ [])) ⊎ (is_over script.play.turns ≡ true)

-- a prefix of the output was written
pub record IsFront (takes_in : TakingIn) (capacity : ℕ) (start : DeskState) (reader read : Reader)
    (writer written : Writer) : Type 0 where
  pub script : Script takes_in capacity start reader read
  pub count : ℕ
  pub writes : Appends writer.holds written.holds (take count (text_of script.play.turns))

-- all output was written, each unit had its turn, no `quit` was answered, and each read returned a byte, not the end
pub record IsOpen (takes_in : TakingIn) (capacity : ℕ) (start : DeskState) (reader read : Reader)
    (writer written : Writer) : Type 0 where
  pub script : Script takes_in capacity start reader read
  pub writes : Appends writer.holds written.holds (text_of script.play.turns)
  pub all : script.play.left ≡ []
  pub goes_on : is_over script.play.turns ≡ false
  pub no_end : read.at_end ≡ false
  pub many : read.reads ≤ length script.bytes

-- ---- a script that continues entries

-- the script was a whole one of the player that the word means, after these entries, and this is the history at its end
pub record IsContinued (capacity : ℕ) (entries : List Entry) (word : List ℕ) (reader read : Reader)
    (writer written : Writer) (history : List Entry) : Type 0 where
  pub start : Alone
  pub resumed : IsResumed capacity entries word start
  pub whole : IsWhole TakesNone capacity start.state reader read writer written
  pub history_is : history ≡ whole.script.desk.seen

-- the script of this player stopped before its end
pub record IsStopped (capacity : ℕ) (entries : List Entry) (word : List ℕ) (reader read : Reader)
    (writer written : Writer) (fault : ScriptFault) : Type 0 where
  pub start : Alone
  pub resumed : IsResumed capacity entries word start
  pub front : IsFront TakesNone capacity start.state reader read writer written
  pub reader_failed : fault ≡ stops.Read → read.has_failed ≡ true
  pub writer_failed : fault ≡ stops.Write → written.has_failed ≡ true
  pub many : fault ≡ stops.TooManyReads
      → (read.reads ≡ MOST_READS) × IsOpen TakesNone capacity start.state reader read writer written

-- the reason why there is no history: the script did not begin, and nothing was read or written, or it stopped
abbrev pub HasNoHistory : ℕ → List Entry → List ℕ → Reader → Reader → Writer → Writer → ContinueFault → Type 0
HasNoHistory capacity entries word reader read writer written (NotResumed fault) =
    IsResumeFault capacity entries word fault × (read ≡ reader) × (written ≡ writer)
HasNoHistory capacity entries word reader read writer written (Stopped fault) =
    IsStopped capacity entries word reader read writer written fault
