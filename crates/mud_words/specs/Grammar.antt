-- A grammar for the words of a line: the texts that spell a word, and the lines that have given words. The law
-- `laws::grammar` says that a line has exactly the words of `plain_words`.
use Rattle.std.specs.Prelude.{◌≢◌, ℕ, List, [], ◌∷◌, ◌++◌, codes}
use Rattle.mud_words.specs.declared.codes.TheConstants.{SPACE, QUOTE, BACKSLASH}

-- the text between two quotes, and its characters: any bytes but quotes and backslashes, and any byte after a backslash
pub data SpellsQuoted : List ℕ → List ℕ → Type 0 where
  nothing : SpellsQuoted [] []
  byte : {b : ℕ} {x text : List ℕ} → b ≢ QUOTE → b ≢ BACKSLASH → SpellsQuoted x text → SpellsQuoted (b ∷ x) (b ∷ text)
  guarded : {b : ℕ} {x text : List ℕ} → SpellsQuoted x text → SpellsQuoted (codes "\\" ++ b ∷ x) (b ∷ text)

-- a run of a word, and its characters: one plain byte, any byte after a backslash, or a quotation
pub data SpellsRun : List ℕ → List ℕ → Type 0 where
  plain : {b : ℕ} → b ≢ SPACE → b ≢ QUOTE → b ≢ BACKSLASH → SpellsRun (b ∷ []) (b ∷ [])
  escaped : {b : ℕ} → SpellsRun (codes "\\" ++ b ∷ []) (b ∷ [])
  quoted : {x text : List ℕ} → SpellsQuoted x text → SpellsRun (codes "\"" ++ x ++ codes "\"") text

-- a word is one or more runs
pub data SpellsWord : List ℕ → List ℕ → Type 0 where
  one : {x w : List ℕ} → SpellsRun x w → SpellsWord x w
  more : {x v y w : List ℕ} → SpellsWord x v → SpellsRun y w → SpellsWord (x ++ y) (v ++ w)

-- a text that may stand only at the end of a line: a final backslash, an open quote, or a final backslash inside an
-- open quote
pub data SpellsOpen : List ℕ → List ℕ → Type 0 where
  backslash : SpellsOpen (codes "\\") []
  quote : {x text : List ℕ} → SpellsQuoted x text → SpellsOpen (codes "\"" ++ x) text
  quote_backslash : {x text : List ℕ} → SpellsQuoted x text → SpellsOpen (codes "\"" ++ x ++ codes "\\") text

-- the last word of a line
pub data SpellsLast : List ℕ → List ℕ → Type 0 where
  whole : {x w : List ℕ} → SpellsWord x w → SpellsLast x w
  unclosed : {x w : List ℕ} → SpellsOpen x w → SpellsLast x w
  word_unclosed : {x v y w : List ℕ} → SpellsWord x v → SpellsOpen y w → SpellsLast (x ++ y) (v ++ w)

-- a line and its words: spaces may stand anywhere around them, and at least one stands between two of them
pub data HasWords : List ℕ → List (List ℕ) → Type 0 where
  none : HasWords [] []
  space : {x : List ℕ} {ws : List (List ℕ)} → HasWords x ws → HasWords (codes " " ++ x) ws
  word : {x w y : List ℕ} {ws : List (List ℕ)} → SpellsWord x w → HasWords y ws
      → HasWords (x ++ codes " " ++ y) (w ∷ ws)
  last : {x w : List ℕ} → SpellsLast x w → HasWords x (w ∷ [])
