-- A turn of a session.
use Rattle.std.specs.Prelude.{◌≡◌, ℕ, List, ◌++◌, codes, Some}
use Rattle.std.specs.Option.{option_map_or}
use Rattle.std.specs.List.{flat_map}
use Rattle.mud_nvt.specs.Units.{Given}
use Rattle.mud_hall.specs.declared.fault.Fault.TheVariants.{DesksFull}
use Rattle.mud_hall.specs.Desk.{DeskState, HandsOut}
use Rattle.mud_hall.specs.Replies.{Reply, Question, Failed}
use Rattle.mud_session.specs.State.{SessionState, DoorState}
use Rattle.mud_session.specs.Session.{TakingIn, Turn, Does, unit_of, answer_to, is_last, reply_line, wire_text}

-- the session with more output
abbrev pub sends : SessionState → List ℕ → SessionState
sends s text = record { terminal = s.terminal; has_ended = s.has_ended; out = s.out ++ text }

-- some of the desk's notices are added to the output
pub record Told (old new : SessionState) (old_desk new_desk : DeskState) : Type 0 where
  pub lines : List (List ℕ)
  pub tells : HandsOut old_desk lines new_desk
  pub is : new ≡ sends old (flat_map wire_text lines)

-- the output for a reply to a line that acts, also if an allocation fails
abbrev pub sent_for : Reply → List ℕ
sent_for reply = option_map_or wire_text (reply_line reply) (wire_text (codes "(out of memory)"))

-- the reply is one to a line that acts
abbrev pub IsSaid : Reply → Type 0
IsSaid (Question v) = ⊥
IsSaid (Failed DesksFull) = ⊥
IsSaid other = Unit {0}

-- a unit has its turn, and its output can be taken out
pub record HasTurn (takes_in : TakingIn) (unit : Given) (old new : SessionState) (old_door new_door : DoorState)
    : Type 0 where
  pub turn : Turn
  pub of : unit_of turn.case ≡ Some unit
  pub does : Does takes_in old_door.capacity old_door.desk turn.case turn.notices new_door.desk
  pub ended : new.has_ended ≡ is_last turn.case
  pub terminal : new.terminal ≡ old.terminal
  pub out : new.out ≡ old.out ++ (flat_map wire_text turn.notices ++ answer_to turn.case)
