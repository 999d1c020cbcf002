-- The number of levels with which a key is read.
use Rattle.std.proofs.Common.{ℕ}
use Rattle.mud_world.specs.declared.locks.Asked.{Asked}
use Rattle.mud_world.specs.declared.locks.Asked.TheVariants.{Levels, Answers}

abbrev pub levels_of : Asked → ℕ
levels_of (Levels n) = n
levels_of (Answers t) = 0
