-- The names of an object.
use Rattle.std.specs.Prelude.{ℕ, ◌<◌, ◌≤◌, List, [], ◌∷◌, length, map, string_bytes}
use Rattle.std.specs.List.{All}
use Rattle.mud_key.specs.declared.limits.TheConstants.{MOST_NAMES}
use Rattle.mud_key.specs.declared.texts.Texts.{Texts}
use Rattle.mud_key.specs.declared.texts.Texts.TheVariants.{One, Several}
use Rattle.mud_key.specs.Name.{IsName}

-- the texts of one name or of several, in order
abbrev pub texts_of : Texts → List (List ℕ)
texts_of (One text) = string_bytes text ∷ []
texts_of (Several texts) = map string_bytes texts.items

-- the names of an object: there are 1 to 4, and each is a name
pub record AreNames (names : List (List ℕ)) : Type 0 where
  pub some : 0 < length names
  pub few : length names ≤ MOST_NAMES
  pub each : All IsName names
