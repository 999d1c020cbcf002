-- The index of the keys of a world.
use Rattle.std.specs.Prelude.{ℕ, Bool, List}
use Rattle.mud_world.specs.State.{State}
use Rattle.mud_world.specs.inner.Answers.{IsPlain}

-- the index says for each number whether its object has no key, and lists the numbers of the objects with a key. A
-- reader need not look into this: contracts only pass it on
abbrev pub IsKeyIndex : State → List Bool × List ℕ → Type 0
IsKeyIndex w x = IsPlain w x.0 x.1
