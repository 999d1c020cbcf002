-- An owner for each text.
use Rattle.std.specs.Prelude.{◌≡◌, ℕ, List, Option, None, Some, bytes_eq, Bool, if◌then◌else◌}
use Rattle.std.specs.List.{list_any}
use Rattle.std.specs.Map.{lookup}
use Rattle.std.specs.Str.{str_to_ascii_lowercase}

-- the owner of the text
abbrev pub owner_of : List (List ℕ × ℕ) → List ℕ → Option ℕ
owner_of owners text = lookup (bytes_eq text) owners

-- the text is one of these in lower case
abbrev pub is_lower_of : List (List ℕ) → List ℕ → Bool
is_lower_of texts t = list_any (λ a. bytes_eq t (str_to_ascii_lowercase a)) texts

-- in lower case the new texts have this owner, the other old ones have none, and each other text keeps its owner
abbrev pub AreOwnersPassed : List (List ℕ) → List (List ℕ) → ℕ → List (List ℕ × ℕ) → List (List ℕ × ℕ) → Type 0
AreOwnersPassed olds news owner old new =
    (t : List ℕ) → owner_of new t
    ≡ (if is_lower_of news t then Some owner else (if is_lower_of olds t then None else owner_of old t))
