-- Names.
use Rattle.std.specs.Prelude.{◌≡◌, ◌≢◌, ℕ, ◌≤◌, List, [], ◌∷◌, ◌++◌, length, codes}
use Rattle.std.specs.List.{All, AllByRecursion}
use Rattle.mud_key.specs.declared.codes.TheConstants.{SPACE, TILDE, SHARP}
use Rattle.mud_key.specs.declared.limits.TheConstants.{MOST_NAME_BYTES}

-- a byte that a name may contain: any from 32 to 126 but these nine
pub record IsNameByte (b : ℕ) : Type 0 where
  pub from : SPACE ≤ b
  pub to : b ≤ TILDE
  pub plain : AllByRecursion (λ c. b ≢ c) (codes "\"\\,|&!?()")

-- a text that names an object in a key: name bytes, the first neither a space nor a sharp, the last not a space
pub record IsNameText (name : List ℕ) : Type 0 where
  pub bytes : All IsNameByte name
  pub first : (b : ℕ) × (rest : List ℕ) × (name ≡ b ∷ rest) × (b ≢ SPACE) × (b ≢ SHARP)
  pub last : (front : List ℕ) × (b : ℕ) × (name ≡ front ++ b ∷ []) × (b ≢ SPACE)

-- there are no two adjacent spaces
abbrev pub HasNoTwoSpaces : List ℕ → Type 0
HasNoTwoSpaces [] = Unit {0}
HasNoTwoSpaces (b ∷ []) = Unit {0}
HasNoTwoSpaces (b ∷ c ∷ rest) = (b ≡ SPACE → c ≢ SPACE) × HasNoTwoSpaces (c ∷ rest)

-- a name: such a text of at most 60 bytes, without two adjacent spaces
pub record IsName (name : List ℕ) : Type 0 where
  pub text : IsNameText name
  pub short : length name ≤ MOST_NAME_BYTES
  pub spaced : HasNoTwoSpaces name
