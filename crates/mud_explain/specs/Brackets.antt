-- Texts in brackets.
use Rattle.std.specs.Prelude.{ℕ, List, ◌++◌, codes}
use Rattle.std.specs.List.{join_by}

-- a text in brackets
abbrev pub in_brackets : List ℕ → List ℕ
in_brackets text = codes "[" ++ text ++ codes "]"

-- texts in brackets, separated by one space
abbrev pub bracket_all : List (List ℕ) → List ℕ
bracket_all texts = join_by in_brackets (codes " ") texts
