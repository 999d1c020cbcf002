-- A history without some of its changes. The numbers of what they made are taken by things that are gone at once, so
-- that all other objects keep theirs.
use Rattle.std.specs.Prelude.{◌≡◌, ℕ, ◌+◌, List, [], ◌∷◌, ◌++◌, take, codes, Option, Some, None, if◌then◌else◌}
use Rattle.std.specs.List.{flat_map, range_with_len}
use Rattle.std.specs.Option.{option_map_or}
use Rattle.mud_world.specs.FirstFailure.{FailsAt}
use Rattle.mud_world.specs.Opening.{opening_state}
use Rattle.mud_world.specs.declared.change.Doors.{Doors}
use Rattle.mud_world.specs.declared.change.Target.TheVariants.{New, Old}
use Rattle.mud_world.specs.declared.change.Deed.{Deed}
use Rattle.mud_world.specs.declared.change.Deed.TheVariants.{Dig, Make, Player, Recycle}
use Rattle.mud_chron.specs.Entry.{Entry}
use Rattle.mud_chron.specs.Replay.{changes_of, AreLegal}
use Rattle.mud_undo.specs.declared.choice.Choice.{Choice}
use Rattle.mud_undo.specs.declared.fault.UndoFault.{UndoFault}
use Rattle.mud_undo.specs.declared.fault.UndoFault.TheVariants as faults
use Rattle.mud_undo.specs.Choices.{leaves_out}

-- how many exits are dug
abbrev pub count_doors : Option Doors → ℕ
count_doors None = 0
count_doors (Some d) = option_map_or (λ names. 2) d.back 1

-- how many objects a deed makes
abbrev pub count_made : Deed → ℕ
count_made (Dig (New names) doors) = count_doors doors + 1
count_made (Dig (Old room) doors) = count_doors doors
count_made (Make names) = 1
count_made (Player name) = 1
count_made deed = 0

-- #1 does this, at desk 1
abbrev pub by_wizard : Deed → Entry
by_wizard deed = record { desk = 1; change = record { actor = 1; deed = deed } }

-- a thing gets the number, and is gone
abbrev pub spare : ℕ → List Entry
spare n = by_wizard (Make (codes "gone" ∷ [])) ∷ by_wizard (Recycle n) ∷ []

-- the substitute of an entry: the entry itself, or entries that take the numbers of its objects
abbrev pub part_of : Choice → ℕ → ℕ → Entry → List Entry
part_of choice version next e =
    if leaves_out choice version e then flat_map spare (range_with_len next (count_made e.change.deed)) else e ∷ []

-- the substitutes of entries; the first one makes this version, and its first object gets this number
abbrev pub parts_of : Choice → ℕ → ℕ → List Entry → List Entry
parts_of choice version next [] = []
parts_of choice version next (e ∷ entries) =
    part_of choice version next e ++ parts_of choice (version + 1) (next + count_made e.change.deed) entries

-- the history without what is chosen
abbrev pub without : Choice → List Entry → List Entry
without choice entries = parts_of choice 1 opening_state.next entries

-- the history without what is chosen, and all that is left is legal
pub record IsUndone (choice : Choice) (entries left : List Entry) : Type 0 where
  pub is : left ≡ without choice entries
  pub legal : AreLegal (changes_of left)

-- the change of this version is the first that isn't legal without what is chosen
abbrev pub StandsOn : Choice → List Entry → ℕ → Type 0
StandsOn choice entries version = FailsAt (λ k. AreLegal (changes_of (without choice (take k entries)))) version

-- the fault of what is chosen, unless memory ran out
abbrev pub IsUndoFault : Choice → List Entry → UndoFault → Type 0
IsUndoFault choice entries faults.OutOfMemory = Unit {0}
IsUndoFault choice entries (faults.StandsOn version) = StandsOn choice entries version
