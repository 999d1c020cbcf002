-- Key texts: the texts that spell a key, without a reading position.
use Rattle.std.specs.Prelude.{ℕ, ◌<◌, ◌≤◌, List, ◌++◌, length, take, codes, Result, Ok, Err}
use Rattle.std.specs.List.{All}
use Rattle.mud_key.specs.declared.codes.TheConstants.{ZERO, NINE}
use Rattle.mud_key.specs.declared.limits.TheConstants.{MOST_DIGITS}
use Rattle.mud_key.specs.declared.key_fault.KeyFault.{KeyFault}
use Rattle.mud_key.specs.declared.key_fault.KeyFault.TheVariants.{OutOfMemory, BadKey, TooManyAtoms}
use Rattle.mud_key.specs.declared.operator.Operator.{Operator}
use Rattle.mud_key.specs.declared.operator.Operator.TheVariants.{And, Or}
use Rattle.mud_key.specs.Tree.{Tree, Has, Asks, Not, Join, IsWithinLimits}
use Rattle.mud_key.specs.Name.{IsNameText}

-- a sharp and one to nine digits
pub record IsNumberText (digits : List ℕ) : Type 0 where
  pub some : 0 < length digits
  pub few : length digits ≤ MOST_DIGITS
  pub each : All (λ b. (ZERO ≤ b) × (b ≤ NINE)) digits

-- the sign of an operator
abbrev pub sign : Operator → List ℕ
sign And = codes "&&"
sign Or = codes "||"

-- the levels of the grammar: an object, a unary, or a chain of unaries
pub data Level : Type 0 where
  Object : Level
  Unary : Level
  Chain : Level

-- a text spells a tree at a level. A join has a chain on its left and a unary on its right, so operators group from the
-- left
pub data Spells : Level → List ℕ → Tree (List ℕ) → Type 0 where
  number : {digits : List ℕ} → IsNumberText digits → Spells Object (codes "#" ++ digits) (Has (codes "#" ++ digits))
  name : {text : List ℕ} → IsNameText text → Spells Object text (Has text)
  object : {x : List ℕ} {k : Tree (List ℕ)} → Spells Object x k → Spells Unary x k
  asks : {x o : List ℕ} → Spells Object x (Has o) → Spells Unary (codes "?" ++ x) (Asks o)
  not : {x : List ℕ} {k : Tree (List ℕ)} → Spells Unary x k → Spells Unary (codes "!" ++ x) (Not k)
  parentheses : {x : List ℕ} {k : Tree (List ℕ)} → Spells Chain x k → Spells Unary (codes "(" ++ x ++ codes ")") k
  unary : {x : List ℕ} {k : Tree (List ℕ)} → Spells Unary x k → Spells Chain x k
  join : {x y : List ℕ} {a b : Tree (List ℕ)} → Spells Chain x a → (op : Operator) → Spells Unary y b
      → Spells Chain (x ++ sign op ++ y) (Join op a b)
  space_before : {l : Level} {x : List ℕ} {k : Tree (List ℕ)} → Spells l x k → Spells l (codes " " ++ x) k
  space_behind : {l : Level} {x : List ℕ} {k : Tree (List ℕ)} → Spells l x k → Spells l (x ++ codes " ") k

-- the text is a key text of this key
abbrev pub SpellsKey : List ℕ → Tree (List ℕ) → Type 0
SpellsKey text key = Spells Chain text key

-- the text is a prefix of some key text
pub record BeginsKeyText (front : List ℕ) : Type 0 where
  pub rest : List ℕ
  pub key : Tree (List ℕ)
  pub whole : SpellsKey (front ++ rest) key

-- n is the length of the longest prefix of the text that begins some key text
pub record IsLongestFront (text : List ℕ) (n : ℕ) : Type 0 where
  pub within : n ≤ length text
  pub begins : BeginsKeyText (take n text)
  pub longest : (m : ℕ) → m ≤ length text → BeginsKeyText (take m text) → m ≤ n

-- unless memory ran out, `read` returned the key of a text within the limits, or TooManyAtoms for a key text beyond
-- them, or the length of the longest prefix that begins some key text
abbrev pub ReadsAs : List ℕ → Result (Tree (List ℕ)) KeyFault → Type 0
ReadsAs text (Ok key) = SpellsKey text key × IsWithinLimits key
ReadsAs text (Err OutOfMemory) = Unit {0}
ReadsAs text (Err (BadKey at)) = ((key : Tree (List ℕ)) → ¬ SpellsKey text key) × IsLongestFront text at
ReadsAs text (Err TooManyAtoms) = (key : Tree (List ℕ)) × SpellsKey text key × (IsWithinLimits key → ⊥)
ReadsAs text (Err other) = ⊥
