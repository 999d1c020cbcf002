-- A draft of the search, after it was checked.
use Rattle.std.specs.Prelude.{◌≡◌, ◌≤◌, ◌<◌, ℕ, List, length, IsTrue}
use Rattle.mud_world.specs.State.{State, exists}
use Rattle.mud_world.specs.History.{world_of}
use Rattle.mud_chron.specs.Entry.{Entry}
use Rattle.mud_chron.specs.Replay.{changes_of, AreLegal}
use Rattle.mud_renumber.specs.Renumbered.{IsRenumbered}

-- the entries are legal, no more than `most`, and lead to the world w but for its numbers, with this next number
pub record IsFound (f : ℕ → ℕ) (w : State) (next : ℕ) (others : List Entry) (most : ℕ) : Type 0 where
  pub legal : AreLegal (changes_of others)
  pub renumbered : IsRenumbered f w (world_of (changes_of others))
  pub next_is : next ≡ (world_of (changes_of others)).next
  pub few : length others ≤ most

-- the new numbers of the objects below n rise, and are below `least`
pub record IsRisen (f : ℕ → ℕ) (w : State) (n least : ℕ) : Type 0 where
  pub rising : (a b : ℕ) → b < n → IsTrue (exists w a) → IsTrue (exists w b) → a < b → f a < f b
  pub below : (a : ℕ) → a < n → IsTrue (exists w a) → f a < least
