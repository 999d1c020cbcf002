-- Statements of the laws.
use Rattle.std.specs.Prelude.{◌≡◌, ℕ, Bool, true, false, not, ◌||◌, ◌==◌, if◌then◌else◌, List, [], ◌∷◌, ◌++◌, filter}
use Rattle.std.specs.Prelude.{◌↔◌, codes}
use Rattle.std.specs.Prelude.{map}
use Rattle.std.specs.List.{slice_split, flat_map, join_with_byte, list_all}
use Rattle.mud_words.specs.declared.codes.TheConstants.{SPACE, QUOTE, BACKSLASH}
use Rattle.mud_words.specs.Words.{plain_words, is_space, after_first_word}
use Rattle.mud_words.specs.Grammar.{SpellsWord, SpellsLast, HasWords}

-- a double quote or a backslash
abbrev pub is_mark : ℕ → Bool
is_mark b = b == QUOTE || b == BACKSLASH

-- a word in double quotes, with a backslash before each of its quotes and backslashes
abbrev pub in_quotes : List ℕ → List ℕ
in_quotes word = QUOTE ∷ (flat_map (λ b. if is_mark b then BACKSLASH ∷ b ∷ [] else b ∷ []) word ++ QUOTE ∷ [])

-- a line that has each word between quotes, and one space between two words, has exactly these words
abbrev pub QuotedWordsReadBack : Type 0
QuotedWordsReadBack = (ws : List (List ℕ)) → plain_words (join_with_byte SPACE (map in_quotes ws)) ≡ ws

abbrev pub is_empty : {A : Type 0} → List A → Bool
is_empty [] = true
is_empty (x ∷ xs) = false

-- the words of a line without quotes and backslashes are the pieces between its spaces
abbrev pub PlainLinesSplitAtSpaces : Type 0
PlainLinesSplitAtSpaces =
    (line : List ℕ) → list_all (λ b. not (is_mark b)) line ≡ true
    → plain_words line ≡ filter (λ word. not (is_empty word)) (slice_split is_space line)

-- a line has exactly the words of `plain_words`
abbrev pub WordsAreSpelled : Type 0
WordsAreSpelled = (line : List ℕ) (ws : List (List ℕ)) → (plain_words line ≡ ws) ↔ HasWords line ws

-- the rest after the first word is the text after the space that ends it, and empty if there is no such space
pub record RestFollowsFirstWord : Type 0 where
  pub follows : {x w : List ℕ} → SpellsWord x w → (rest : List ℕ) → after_first_word (x ++ codes " " ++ rest) ≡ rest
  pub nothing : {x w : List ℕ} → SpellsLast x w → after_first_word x ≡ []
  pub blank : after_first_word [] ≡ []
