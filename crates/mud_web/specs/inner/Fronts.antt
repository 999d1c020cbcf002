-- The bytes after leading line ends.
use Rattle.std.specs.Prelude.{ℕ, List, [], ◌∷◌, if◌then◌else◌}
use Rattle.mud_web.specs.FirstLine.{is_line_end}

-- the bytes after the leading line ends
abbrev pub behind_ends : List ℕ → List ℕ
behind_ends [] = []
behind_ends (b ∷ bs) = if is_line_end b then behind_ends bs else b ∷ bs
