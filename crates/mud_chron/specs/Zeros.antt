-- The bytes before the zeros that a disk shows where nothing was written.
use Rattle.std.specs.Prelude.{◌==◌, if◌then◌else◌, ℕ, List, [], ◌∷◌}

-- the bytes before the first zero
abbrev pub up_to_zero : List ℕ → List ℕ
up_to_zero [] = []
up_to_zero (b ∷ bytes) = if b == 0 then [] else (b ∷ up_to_zero bytes)
