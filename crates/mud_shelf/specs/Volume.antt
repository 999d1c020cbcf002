-- The next volume as a disk.
use Rattle.std.specs.Prelude.{Bool, true, false, List, [], ◌∷◌, Option, Some, ℕ, if◌then◌else◌}
use Rattle.mud_journal.specs.Disk.{Kept, made}
use Rattle.mud_shelf.specs.Draft.{Stage, Removed, Temporary, Renamed, Published}
use Rattle.mud_shelf.specs.declared.standing.Standing.{Standing}
use Rattle.mud_shelf.specs.declared.standing.Standing.TheVariants.{Fresh, Begun, CalledOff}

-- the bytes that a start finds under the volume's name: before the rename is durable, none of them is
abbrev pub durable : Stage → Kept
durable Removed = made []
durable (Temporary file) = record file { synced = [] }
durable (Renamed file) = record file { synced = [] }
durable (Published file) = file

abbrev pub is_empty : List ℕ → Bool
is_empty [] = true
is_empty (b ∷ bytes) = false

-- nothing was written to the file
abbrev pub is_blank : Kept → Bool
is_blank file = if is_empty file.appended then is_empty file.synced else false

-- a stage, if it is known, is one of a volume with this standing
abbrev pub is_at : Option Stage → Standing → Bool
is_at (Some (Temporary file)) Fresh = is_blank file
is_at (Some stage) Fresh = false
is_at (Some (Published file)) Begun = true
is_at (Some stage) Begun = false
is_at (Some Removed) CalledOff = true
is_at (Some (Temporary file)) CalledOff = true
is_at (Some stage) CalledOff = false
is_at stage standing = true
