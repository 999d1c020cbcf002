-- The state of a terminal and the bytes it received.
use Rattle.std.specs.Prelude.{ℕ, List, ◌++◌, ◌≡◌}
use Rattle.mud_nvt.specs.Units.{Given, units}
use Rattle.mud_nvt.specs.Held.{Held}
use Rattle.mud_nvt.specs.inner.Machine.{start, run}

-- the terminal received exactly these bytes. A reader need not look into this: `new` gives the state after no bytes,
-- and `feed` advances it, and the contracts describe units only by their definition
pub record StandsAfter (held : Held) (bytes : List ℕ) : Type 0 where
  pub is : held ≡ run start bytes

-- whatever came earlier, the terminal then also received these bytes, and the caller's list gained exactly the new
-- units
pub record TakesIn (old new : Held) (before after : List Given) (bytes : List ℕ) : Type 0 where
  pub stands : (earlier : List ℕ) → StandsAfter old earlier → StandsAfter new (earlier ++ bytes)
  pub grows : (earlier : List ℕ) → StandsAfter old earlier
      → (fresh : List Given) × (after ≡ before ++ fresh) × (units (earlier ++ bytes) ≡ units earlier ++ fresh)
