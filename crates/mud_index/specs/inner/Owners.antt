-- Owners that are set in part.
use Rattle.std.specs.Prelude.{◌≡◌, ℕ, List, Option, bytes_eq, if◌then◌else◌}
use Rattle.std.specs.List.{list_any}
use Rattle.mud_index.specs.Owners.{owner_of}

-- the texts have this owner, or none, and each other text keeps its owner
abbrev pub AreOwnersSet : List (List ℕ) → Option ℕ → List (List ℕ × ℕ) → List (List ℕ × ℕ) → Type 0
AreOwnersSet texts owner old new =
    (t : List ℕ) → owner_of new t ≡ (if list_any (bytes_eq t) texts then owner else owner_of old t)
