-- The result of a replay.
use Rattle.std.specs.Prelude.{◌≡◌, ℕ, List, [], ◌∷◌, map, take, None}
use Rattle.mud_world.specs.State.{State}
use Rattle.mud_world.specs.Opening.{opening_state}
use Rattle.mud_world.specs.History.{world_of}
use Rattle.mud_world.specs.Legal.{refusal, after}
use Rattle.mud_world.specs.declared.change.Change.{Change}
use Rattle.mud_chron.specs.declared.fault.ChronFault.{ChronFault}
use Rattle.mud_chron.specs.declared.fault.ChronFault.TheVariants.{OutOfMemory, BadChange}
use Rattle.mud_chron.specs.Entry.{Entry}
use Rattle.mud_world.specs.FirstFailure.{FailsAt}

abbrev pub changes_of : List Entry → List Change
changes_of entries = map (λ e. e.change) entries

-- the world of the first n entries; an illegal change has no effect
abbrev pub world_at : List Entry → ℕ → State
world_at entries count = world_of (changes_of (take count entries))

-- from this world on, each change is legal in the world that the earlier ones made
abbrev pub AreLegalFrom : State → List Change → Type 0
AreLegalFrom w [] = Unit {0}
AreLegalFrom w (e ∷ changes) = (refusal w e ≡ None) × AreLegalFrom (after w e) changes

-- each change is legal where it occurs in the history
abbrev pub AreLegal : List Change → Type 0
AreLegal changes = AreLegalFrom opening_state changes

-- change n, counted from 1, is the first one that is illegal where it occurs
abbrev pub IsFirstIllegal : List Change → ℕ → Type 0
IsFirstIllegal changes n = FailsAt (λ k. AreLegal (take k changes)) n

-- the fault of entries with an illegal change, unless memory ran out
abbrev pub HasIllegal : List Entry → ChronFault → Type 0
HasIllegal entries OutOfMemory = Unit {0}
HasIllegal entries (BadChange n) = IsFirstIllegal (changes_of entries) n
HasIllegal entries other = ⊥
