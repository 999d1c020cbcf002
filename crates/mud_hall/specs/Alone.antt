-- A single-user desk.
use Rattle.std.specs.Prelude.{◌≡◌, ◌≤◌, ◌<◌, ℕ, List, length, Option, Ok, IfSome, IsTrue}
use Rattle.mud_world.specs.State.{State, is_player}
use Rattle.mud_roads.specs.Passable.{Knowledge, IsFollower}
use Rattle.mud_world.specs.declared.limits.TheConstants.{MOST_ENTRIES}
use Rattle.mud_chron.specs.Entry.{Entry}
use Rattle.mud_chron.specs.Replay.{changes_of, AreLegal, IsFirstIllegal}
use Rattle.mud_rules.specs.Matches.{match_among}
use Rattle.mud_hall.specs.Notices.{world_after}
use Rattle.mud_hall.specs.Desk.{DeskState, new_desk, as_player}
use Rattle.mud_hall.specs.Settlement.{versions_by}
use Rattle.mud_hall.specs.declared.fault.ResumeFault.{ResumeFault}
use Rattle.mud_hall.specs.declared.fault.ResumeFault.TheVariants.{OutOfMemory, BadChange, OverCapacity, NoPlayer}

-- the capacity of the history, and the state of the desk
pub record Alone : Type 0 where
  pub capacity : ℕ
  pub state : DeskState

-- desk 1, whose calls are the entries with its number, and which has no notices
abbrev pub alone : ℕ → ℕ → List Entry → Alone
alone capacity player h =
    record { capacity = capacity; state = record (as_player (new_desk 1 h) player) { calls = versions_by 1 1 h } }

-- the word means this player, as in `meet`; `me` and `here` are those of #1
abbrev pub IsNamed : State → List ℕ → ℕ → Type 0
IsNamed w word player = (match_among (is_player w) w 1 word ≡ Ok player) × IsTrue (is_player w player)

-- the desk of the player that the word means, after these entries
pub record IsResumed (capacity : ℕ) (entries : List Entry) (word : List ℕ) (a : Alone) : Type 0 where
  pub legal : AreLegal (changes_of entries)
  pub player : ℕ
  pub named : IsNamed (world_after entries) word player
  pub is : a ≡ alone capacity player entries

-- the reason why there is no such desk
abbrev pub IsResumeFault : ℕ → List Entry → List ℕ → ResumeFault → Type 0
IsResumeFault capacity entries word OutOfMemory = Unit {0}
IsResumeFault capacity entries word (BadChange n) = IsFirstIllegal (changes_of entries) n
IsResumeFault capacity entries word OverCapacity = AreLegal (changes_of entries) × (capacity < length entries)
IsResumeFault capacity entries word NoPlayer =
    AreLegal (changes_of entries) × ((player : ℕ) → IsNamed (world_after entries) word player → ⊥)

-- the invariant of a single-user desk. A reader need not look into this: contracts only pass it on
pub record IsAlone (capacity player : ℕ) (t : Option Knowledge) (w : State) (h : List Entry) : Type 0 where
  pub world : w ≡ world_after h
  pub room : length h ≤ capacity
  pub few : capacity ≤ MOST_ENTRIES
  pub plays : IsTrue (is_player w player)
  pub known : IfSome t (IsFollower w)
