-- The printed text of a key.
use Rattle.std.specs.Prelude.{ℕ, ◌≤◌, ◌+◌, List, [], ◌∷◌, ◌++◌, codes, nat_eq, if◌then◌else◌, ◌≡◌, Result, Ok}
use Rattle.std.specs.Fmt.{decimal}
use Rattle.mud_key.specs.declared.codes.TheConstants.{PARENTHESIS}
use Rattle.mud_key.specs.declared.limits.TheConstants.{LAST_NUMBER}
use Rattle.mud_key.specs.Tree.{Tree, Has, Asks, Not, Join}
use Rattle.mud_key.specs.declared.namer.Miss.{Miss}
use Rattle.mud_key.specs.Namer.{resolved}
use Rattle.mud_key.specs.KeyText.{SpellsKey, sign}

-- the text of an object: a sharp and its number
abbrev pub number_text : ℕ → List ℕ
number_text n = codes "#" ++ decimal n

-- the key with each object n replaced by its text `#n`
abbrev pub by_text : Tree ℕ → Tree (List ℕ)
by_text (Has n) = Has (number_text n)
by_text (Asks n) = Asks (number_text n)
by_text (Not k) = Not (by_text k)
by_text (Join op a b) = Join op (by_text a) (by_text b)

-- the text of a key in the place of a unary: in parentheses if the key is a join
abbrev pub in_parentheses : Tree (List ℕ) → List ℕ → List ℕ
in_parentheses (Join op a b) text = codes "(" ++ text ++ codes ")"
in_parentheses other text = text

-- the printed text of a key
abbrev pub printed : Tree (List ℕ) → List ℕ
printed (Has o) = o
printed (Asks o) = codes "?" ++ o
printed (Not k) = codes "!" ++ in_parentheses k (printed k)
printed (Join op a b) = printed a ++ codes " " ++ sign op ++ codes " " ++ in_parentheses b (printed b)

-- the number of opening parentheses in a text
abbrev pub opens : List ℕ → ℕ
opens [] = 0
opens (b ∷ text) = (if nat_eq b PARENTHESIS then 1 else 0) + opens text

-- the text is a key text, and reads as this key wherever each `#n` means n
pub record ReadsBack (text : List ℕ) (key : Tree ℕ) : Type 0 where
  pub is_key_text : (read : Tree (List ℕ)) × SpellsKey text read
  pub again : (read : Tree (List ℕ)) → SpellsKey text read → (meaning : List ℕ → Result ℕ Miss)
      → ((n : ℕ) → n ≤ LAST_NUMBER → meaning (number_text n) ≡ Ok n) → resolved meaning read ≡ Ok key
