-- Keys with all parentheses.
use Rattle.std.specs.Prelude.{◌≡◌, ℕ, List, ◌++◌, codes}
use Rattle.std.specs.Fmt.{decimal}
use Rattle.mud_key.specs.Tree.{Tree, Has, Asks, Not, Join, IsWithinLimits}
use Rattle.mud_key.specs.KeyText.{SpellsKey, IsLongestFront, sign}

-- the text of a key with one pair of parentheses around each join, and no other
abbrev pub group_text : Tree (List ℕ) → List ℕ
group_text (Has o) = o
group_text (Asks o) = codes "?" ++ o
group_text (Not k) = codes "!" ++ group_text k
group_text (Join op a b) = codes "(" ++ group_text a ++ codes " " ++ sign op ++ codes " " ++ group_text b ++ codes ")"

-- the explanation of a text: its key; or how far it begins a key text; or that it is one beyond the limits
pub data SaysKey (text answer : List ℕ) : Type 0 where
  a_key : (key : Tree (List ℕ)) → SpellsKey text key → IsWithinLimits key → answer ≡ group_text key
      → SaysKey text answer
  no_key : (at : ℕ) → ((key : Tree (List ℕ)) → ¬ SpellsKey text key) → IsLongestFront text at
      → answer ≡ codes "bad key at " ++ decimal at → SaysKey text answer
  too_many : (key : Tree (List ℕ)) → SpellsKey text key → (IsWithinLimits key → ⊥)
      → answer ≡ codes "too many objects" → SaysKey text answer
