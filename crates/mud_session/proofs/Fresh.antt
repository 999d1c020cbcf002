-- The units of more bytes.
use Rattle.std.proofs.Common.{◌≡◌, ℕ, List, ◌++◌}
use Rattle.mud_nvt.specs.Units.{Given, units}
use Rattle.mud_nvt.proofs.Whole.{units-append}

-- the units that more bytes add
pub fresh_units : (bytes more : List ℕ) → (fresh : List Given) × (units (bytes ++ more) ≡ units bytes ++ fresh)
fresh_units bytes more = (_, units-append bytes more)
