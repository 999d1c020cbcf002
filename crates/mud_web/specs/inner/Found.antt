-- The result of looking for a field.
use Rattle.std.specs.Prelude.{◌≡◌, ◌<◌, ℕ, List, [], ◌∷◌, length}
use Rattle.mud_web.specs.declared.fields.Found.{Found}
use Rattle.mud_web.specs.declared.fields.Found.TheVariants.{Nothing, One, Several}

-- the result describes the values of all fields with the name
abbrev pub IsFound : Found → List (List ℕ) → Type 0
IsFound Nothing values = values ≡ []
IsFound (One value) values = values ≡ value.now ∷ []
IsFound Several values = 1 < length values
