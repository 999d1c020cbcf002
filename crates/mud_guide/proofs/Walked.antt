-- The exits of a walk as they are written.
use Rattle.std.proofs.Common.{◌≡◌, ◌++◌, ◌<◌, List, [], ◌∷◌, length, refl, arith}
use Rattle.std.specs.Prelude.{codes, decimal}
use Rattle.std.specs.List.{flat_map}
use Rattle.mud_roads.specs.declared.label.Step.{Step}
use Rattle.mud_cert.specs.Text.{exits_text}
use Rattle.mud_guide.specs.Ways.{exits_of}

-- a walk without steps
pub exits_none : (steps : List Step) → length steps ≡ 0 → exits_text (exits_of steps) ≡ codes " nothing"
exits_none [] none = refl
exits_none (s ∷ steps) none = absurd (omega arith)

-- a walk with steps, one by one
pub exits_some : (steps : List Step) → 0 < length steps
    → exits_text (exits_of steps) ≡ flat_map (λ exit. codes " #" ++ decimal exit) (exits_of steps)
exits_some [] some = absurd (omega arith)
exits_some (s ∷ steps) some = refl
