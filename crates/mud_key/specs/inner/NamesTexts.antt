-- The texts that spell names, name by name. The law `laws::names` describes them by the parts of a text.
use Rattle.std.specs.Prelude.{◌≡◌, Bool, false, ℕ, ◌≤◌, List, [], ◌∷◌, ◌++◌, length, replicate, codes, Result, Ok, Err}
use Rattle.std.specs.Prelude.{reverse}
use Rattle.std.specs.Str.{bytes_eq}
use Rattle.mud_key.specs.declared.codes.TheConstants.{SPACE}
use Rattle.mud_key.specs.declared.limits.TheConstants.{MOST_NAMES}
use Rattle.mud_key.specs.declared.names.NamesFault.{NamesFault}
use Rattle.mud_key.specs.declared.names.NamesFault.TheVariants.{OutOfMemory, BadName}
use Rattle.mud_key.specs.Name.{IsName}
use Rattle.mud_key.specs.Commas.{without_leading_spaces}

-- the text is a name with spaces around it
pub record SpellsName (text name : List ℕ) : Type 0 where
  pub before : ℕ
  pub behind : ℕ
  pub spaces : text ≡ replicate before SPACE ++ name ++ replicate behind SPACE
  pub is_name : IsName name

-- the text is these names, with a comma between two of them
pub data SpellsNames : List ℕ → List (List ℕ) → Type 0 where
  one : {x n : List ℕ} → SpellsName x n → SpellsNames x (n ∷ [])
  more : {x n y : List ℕ} {ns : List (List ℕ)} → SpellsName x n → SpellsNames y ns
      → SpellsNames (x ++ codes "," ++ y) (n ∷ ns)

-- the text is a names text of these names, at most 4
pub record IsNamesText (text : List ℕ) (names : List (List ℕ)) : Type 0 where
  pub spells : SpellsNames text names
  pub few : length names ≤ MOST_NAMES

-- the text is not a names text
abbrev pub IsNoNamesText : List ℕ → Type 0
IsNoNamesText text = (names : List (List ℕ)) → IsNamesText text names → ⊥

-- unless memory ran out, the names of the text, or a fault if it is not a names text
abbrev pub NamesReadAs : List ℕ → Result (List (List ℕ)) NamesFault → Type 0
NamesReadAs text (Ok names) = IsNamesText text names
NamesReadAs text (Err OutOfMemory) = Unit {0}
NamesReadAs text (Err BadName) = IsNoNamesText text

-- unless memory ran out, the text itself if it is a name, or a fault if it is not
abbrev pub NameReadsAs : List ℕ → Result (List ℕ) NamesFault → Type 0
NameReadsAs text (Ok name) = (name ≡ text) × IsName text
NameReadsAs text (Err OutOfMemory) = Unit {0}
NameReadsAs text (Err BadName) = IsName text → ⊥

-- the names are this one text
abbrev pub is_only : List ℕ → List (List ℕ) → Bool
is_only text [] = false
is_only text (name ∷ []) = bytes_eq name text
is_only text (name ∷ next ∷ names) = false

-- the text without leading and trailing spaces
abbrev pub without_outer_spaces : List ℕ → List ℕ
without_outer_spaces text = reverse (without_leading_spaces (reverse (without_leading_spaces text)))
