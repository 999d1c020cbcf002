-- The stages of a file that is made the next volume.
use Rattle.std.specs.Prelude.{◌≡◌, ◌⊎◌, ℕ, List, Option, IfSome}
use Rattle.mud_journal.specs.Disk.{Kept, made}
use Rattle.mud_shelf.specs.Draft.{Stage, Temporary, Renamed}

-- the file has its temporary name
abbrev pub IsTemporary : Option Stage → Type 0
IsTemporary stage = IfSome stage (λ s. (file : Kept) × (s ≡ Temporary file))

-- likewise, and this text is synced
abbrev pub HasText : Option Stage → List ℕ → Type 0
HasText stage text = IfSome stage (λ s. s ≡ Temporary (made text))

-- the file has this text, and either name
abbrev pub IsEither : Option Stage → List ℕ → Type 0
IsEither stage text = IfSome stage (λ s. (s ≡ Temporary (made text)) ⊎ (s ≡ Renamed (made text)))
