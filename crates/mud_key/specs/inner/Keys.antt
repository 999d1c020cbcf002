-- Digits, texts that are not key texts, and the fewest parentheses.
use Rattle.std.specs.Prelude.{ℕ, ◌≤◌, List}
use Rattle.mud_key.specs.declared.codes.TheConstants.{ZERO, NINE}
use Rattle.mud_key.specs.Tree.{Tree}
use Rattle.mud_key.specs.KeyText.{SpellsKey}
use Rattle.mud_key.specs.Printed.{opens}

-- a digit
abbrev pub IsDigit : ℕ → Type 0
IsDigit b = (ZERO ≤ b) × (b ≤ NINE)

-- the text spells no key
abbrev pub IsNoKeyText : List ℕ → Type 0
IsNoKeyText text = (key : Tree (List ℕ)) → SpellsKey text key → ⊥

-- no key text of the key has fewer parentheses
abbrev pub HasLeastParentheses : List ℕ → Tree (List ℕ) → Type 0
HasLeastParentheses text key = (other : List ℕ) → SpellsKey other key → opens text ≤ opens other
