-- Laws of the definitions.
use Rattle.std.specs.Prelude.{◌≡◌}
use Rattle.mud_world.specs.State.{State}
use Rattle.mud_world.specs.Sound.{IsSound}
use Rattle.mud_diff.specs.declared.difference.Difference.{Difference}
use Rattle.mud_diff.specs.Differences.{Differs}

-- worlds of one next number that differ in nothing are the same
abbrev pub SameWithoutDifference : Type 0
SameWithoutDifference =
    (old new : State) → IsSound old → IsSound new → old.next ≡ new.next → ((d : Difference) → Differs old new d → ⊥)
    → old ≡ new

-- a world differs in nothing from itself
abbrev pub NothingDiffersFromItself : Type 0
NothingDiffersFromItself = (w : State) (d : Difference) → Differs w w d → ⊥
