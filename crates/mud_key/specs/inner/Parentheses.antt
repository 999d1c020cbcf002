-- Parentheses around a key.
use Rattle.std.specs.Prelude.{ℕ, List, [], codes}
use Rattle.mud_key.specs.Tree.{Tree, Join}

-- the parentheses that `in_parentheses` puts around a key, if any; only private clauses cite them
abbrev pub opening_of : Tree (List ℕ) → List ℕ
opening_of (Join op a b) = codes "("
opening_of other = []

abbrev pub closing_of : Tree (List ℕ) → List ℕ
closing_of (Join op a b) = codes ")"
closing_of other = []
