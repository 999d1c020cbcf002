-- The output of a session at its halls from its beginning on: sent and still to be sent.
use Rattle.std.specs.Prelude.{◌≡◌, ℕ, false, List, [], ◌++◌, codes, Option, None}
use Rattle.std.specs.List.{flat_map}
use Rattle.std.specs.Option.{option_to_list}
use Rattle.mud_nvt.specs.Units.{Given, units}
use Rattle.mud_nvt.specs.History.{StandsAfter}
use Rattle.mud_hall.specs.Desk.{DeskState, TakesIn}
use Rattle.mud_session.specs.State.{SessionState}
use Rattle.mud_session.specs.Session.{Turn, Plays, unit_of, is_over, wire_text, text_of}

-- the greeting
abbrev pub greeting : List ℕ
greeting = wire_text (codes "Welcome. Type: connect NAME")

-- the units of these turns
abbrev pub units_of : List Turn → List Given
units_of turns = flat_map (λ turn. option_to_list (unit_of turn.case)) turns

-- the beginning of a session at a hall: the units of its turns at earlier halls, its greeting and their text, and its
-- player
pub record Start : Type 0 where
  pub units : List Given
  pub text : List ℕ
  pub player : Option ℕ

-- at its first hall it is a guest's, and has only its greeting
abbrev pub fresh : List ℕ → Start
fresh greeting = record { units = []; text = greeting; player = None }

-- the beginning at the next hall, after these turns
abbrev pub next_start : Start → List Turn → Option ℕ → Start
next_start start turns player = record {
  units = start.units ++ units_of turns;
  text = start.text ++ text_of turns;
  player = player;
}

-- the desk begins as this player's, or as a guest's, without notices
abbrev pub as_begun : Option ℕ → DeskState → DeskState
as_begun player s = record s { player = player; told = [] }

-- a session that received these bytes, and began so at its hall, played these turns there: with those at earlier halls,
-- the turns of all units up to the last reply. Its greeting and the text of all turns are the output sent and still to
-- be sent
pub record IsTalk (capacity : ℕ) (start : Start) (typed sent : List ℕ) (session : SessionState) (desk : DeskState)
    : Type 0 where
  pub first : DeskState
  pub begun : first ≡ as_begun start.player first
  pub turns : List Turn
  pub plays : Plays TakesIn capacity first turns desk
  pub over : session.has_ended ≡ is_over turns
  pub stands : StandsAfter session.terminal typed
  pub left : List Given
  pub given : units typed ≡ start.units ++ (units_of turns ++ left)
  pub all : session.has_ended ≡ false → left ≡ []
  pub says : start.text ++ text_of turns ≡ sent ++ session.out
