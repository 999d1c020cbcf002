-- Answers to the host. The last line is `ok` or begins with `error `.
use Rattle.std.specs.Prelude.{ℕ, List, ◌++◌, codes}

-- the answer with one more line
abbrev pub with_line : List ℕ → (line : List ℕ) → List ℕ
with_line text line = text ++ line ++ codes "\n"

-- the answer to a request that was carried out
abbrev pub with_ok : List ℕ → List ℕ
with_ok text = text ++ codes "ok\n"

-- the answer to a request that failed, with the reason
abbrev pub with_error : List ℕ → (why : List ℕ) → List ℕ
with_error text why = text ++ codes "error " ++ why ++ codes "\n"
