-- The state of a desk, and how it changes.
use Rattle.std.specs.Prelude.{◌≡◌, ◌≤◌, ℕ, ◌+◌, nat_lt, if◌then◌else◌, IsTrue, Option, Some, None, IfSome}
use Rattle.std.specs.Prelude.{List, [], ◌∷◌, ◌++◌, length, take, drop}
use mathlib.Core.List.{IsPrefix}
use Rattle.mud_world.specs.State.{is_player}
use Rattle.mud_world.specs.Legal.{is_arrival}
use Rattle.mud_world.specs.declared.change.Change.{Change}
use Rattle.mud_roads.specs.Passable.{Knowledge, IsFollower}
use Rattle.mud_chron.specs.declared.limits.TheConstants.{MOST_DESKS}
use Rattle.mud_chron.specs.Entry.{Entry}
use Rattle.mud_chron.specs.Replay.{world_at}
use Rattle.mud_row.specs.Known.{Known, Standing}
use Rattle.mud_hall.specs.Notices.{world_after, notices}

-- a desk: its number, its player or none, the entries that it has seen, the versions of its calls, and its notices
pub record DeskState : Type 0 where
  pub number : ℕ
  pub player : Option ℕ
  pub seen : List Entry
  pub calls : List ℕ
  pub told : List (List ℕ)

-- a guest's desk with this number, which has seen these entries
abbrev pub new_desk : ℕ → List Entry → DeskState
new_desk number seen = record { number = number; player = None; seen = seen; calls = []; told = [] }

-- a guest's desk again
abbrev pub as_guest : DeskState → DeskState
as_guest s = record s { player = None; told = [] }

abbrev pub as_player : DeskState → ℕ → DeskState
as_player s p = record s { player = Some p }

-- the desk after its own change, which it gets no notice of: a new player is seated where the player appeared
abbrev pub as_accepted : DeskState → Change → DeskState
as_accepted s e = record s {
  player = if is_arrival e.deed then Some e.actor else s.player;
  seen = s.seen ++ record { desk = s.number; change = e } ∷ [];
  calls = s.calls ++ (length s.seen + 1) ∷ [];
}

-- the desk with these further notices
abbrev pub with_told : DeskState → List (List ℕ) → DeskState
with_told s told = record s { told = told }

-- the desk has seen more entries and got their notices, and nothing else changed
pub record TakesIn (old new : DeskState) : Type 0 where
  pub entries : List Entry
  pub is : new ≡ record old { seen = old.seen ++ entries; told = old.told ++ notices old.player old.seen entries }

-- it has seen what another desk has seen, if that is more
pub record Learns (old other new : DeskState) : Type 0 where
  pub takes_in : TakesIn old new
  pub longer : new.seen ≡ (if nat_lt (length old.seen) (length other.seen) then other.seen else old.seen)

-- it handed out these notices, in order, and the others remain
pub record HandsOut (old : DeskState) (lines : List (List ℕ)) (new : DeskState) : Type 0 where
  pub told : old.told ≡ lines ++ new.told
  pub is : new ≡ with_told old new.told

-- a new guest's desk, which has seen at least the loaded entries
pub record IsNew (loaded : List Entry) (new : DeskState) : Type 0 where
  pub from : 1 ≤ new.number
  pub to : new.number ≤ MOST_DESKS
  pub begun : IsPrefix loaded new.seen
  pub is : new ≡ new_desk new.number new.seen

-- ---- the model of a desk

-- its state, and the number of seen entries that its world has applied
pub record View : Type 0 where
  pub state : DeskState
  pub at : ℕ

-- the pending notices: those of the entries that its world has not applied
abbrev pub pending : View → List (List ℕ)
pending v = notices v.state.player (take v.at v.state.seen) (drop v.at v.state.seen)

-- the invariant of every desk of this hall. A reader need not look into this: contracts only pass it on
pub record IsHeld (cells : List ℕ) (loaded : List Entry) (number : ℕ) (player : Option ℕ) (t : Option Knowledge)
    (r : Standing) : Type 0 where
  pub row : r.row ≡ cells
  pub begun : IsPrefix loaded r.list
  pub from : 1 ≤ number
  pub to : number ≤ MOST_DESKS
  pub seated : IfSome player (λ p. IsTrue (is_player (world_after r.list) p))
  pub known : IfSome t (IsFollower (world_at r.list r.at))

-- the invariant of the state under the hall's lock. A reader need not look into this: contracts only pass it on
pub record IsKept (cells : List ℕ) (loaded : List Entry) (given : ℕ) (start : Known) : Type 0 where
  pub few : given ≤ MOST_DESKS
  pub row : start.row ≡ cells
  pub list : start.list ≡ loaded
