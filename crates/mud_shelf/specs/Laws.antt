-- Laws of the definitions.
use Rattle.std.specs.Prelude.{◌≡◌, ◌⊎◌, ℕ, ◌+◌, List}
use mathlib.Core.List.{IsPrefix}
use Rattle.mud_world.specs.History.{world_of}
use Rattle.mud_chron.specs.Entry.{Entry}
use Rattle.mud_chron.specs.Replay.{changes_of}
use Rattle.mud_journal.specs.Crash.{AreThere, AreAny}
use Rattle.mud_journal.specs.declared.fault.OpenFault.{OpenFault}
use Rattle.mud_shelf.specs.Names.{IsVolume, volume_name}
use Rattle.mud_shelf.specs.Turn.{Folder, IsLeftByTurn, IsFound, IsNotFound, IsOfSystem}

-- volumes with different numbers have different names
abbrev pub NamesDiffer : Type 0
NamesDiffer =
    (journal : List ℕ) (m n : ℕ) → IsVolume m → IsVolume n → volume_name journal m ≡ volume_name journal n → m ≡ n

-- **The law of the turn**, for whatever a crash at any moment of a turn leaves
pub record TurnLosesNothing : Type 0 where
  -- a start finds the old volume with its whole history, or the next one with all entries that it begins with
  pub found : (journal : List ℕ) (n : ℕ) (history begun : List Entry) (left : Folder) (m : ℕ) (got : List Entry)
      → IsLeftByTurn AreThere journal n history begun left → IsFound journal left m got
      → (m ≡ n) × (got ≡ history) ⊎ (m ≡ n + 1) × (got ≡ begun)
  -- if both have the same world, it is the world that is found
  pub world : (journal : List ℕ) (n : ℕ) (history begun : List Entry) (left : Folder) (m : ℕ) (got : List Entry)
      → IsLeftByTurn AreThere journal n history begun left → IsFound journal left m got
      → world_of (changes_of begun) ≡ world_of (changes_of history)
      → world_of (changes_of got) ≡ world_of (changes_of history)
  -- no start fails for what the files contain
  pub read : (journal : List ℕ) (n : ℕ) (history begun : List Entry) (left : Folder) (fault : OpenFault)
      → IsLeftByTurn AreThere journal n history begun left → IsNotFound journal left fault → IsOfSystem fault

-- likewise, on a disk of any kind: what is found in a volume begins with its entries, and a line that an older file
-- left may follow
abbrev pub OnAnyFolder : Type 0
OnAnyFolder =
    (journal : List ℕ) (n : ℕ) (history begun : List Entry) (left : Folder) (m : ℕ) (got : List Entry)
    → IsLeftByTurn AreAny journal n history begun left → IsFound journal left m got
    → (m ≡ n) × IsPrefix history got ⊎ (m ≡ n + 1) × IsPrefix begun got
