-- A tree encoded as a list of its nodes, from which it can be decoded. By it the models of `Key` and `KeyText`
-- distinguish trees. No contract cites it.
use Rattle.std.specs.Prelude.{ℕ, List, []}
use Rattle.std.specs.Coded.{Coded, coded_list, coded_ℕ}
use Rattle.mud_key.specs.Tree.{Tree}
use Rattle.mud_key.specs.inner.Tokens.{coded_tree}

-- the encoding of the trees of `Key`. A reader need not look into this: its type shows that it distinguishes trees
abbrev pub coded_number_tree : Coded (Tree ℕ)
coded_number_tree = coded_tree 0 coded_ℕ

-- the encoding of the trees of `KeyText`. A reader need not look into this: its type shows that it distinguishes trees
abbrev pub coded_text_tree : Coded (Tree (List ℕ))
coded_text_tree = coded_tree [] (coded_list coded_ℕ)
