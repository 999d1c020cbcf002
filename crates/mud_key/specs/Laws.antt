-- Statements of the laws.
use Rattle.std.specs.Prelude.{◌≡◌, ◌↔◌, ℕ, List, Some}
use Rattle.mud_key.specs.Tree.{Tree, IsWithinLimits}
use Rattle.mud_key.specs.Name.{IsName}
use Rattle.mud_key.specs.Names.{AreNames}
use Rattle.mud_key.specs.Commas.{parts_of}
use Rattle.mud_key.specs.KeyText.{SpellsKey}
use Rattle.mud_key.specs.Finds.{names_in, name_in, key_in}

-- the names found are the parts of the text, if these are the names of an object
abbrev pub AreTheNames : Type 0
AreTheNames =
    (text : List ℕ) (names : List (List ℕ)) → (names_in text ≡ Some names) ↔ ((names ≡ parts_of text) × AreNames names)

-- a name is found exactly in a text that is this name
abbrev pub IsTheName : Type 0
IsTheName = (text name : List ℕ) → (name_in text ≡ Some name) ↔ ((name ≡ text) × IsName text)

-- the key found is the one that the text spells, if it is within the limits
abbrev pub IsTheKey : Type 0
IsTheKey = (text : List ℕ) (key : Tree (List ℕ)) → (key_in text ≡ Some key) ↔ (SpellsKey text key × IsWithinLimits key)
