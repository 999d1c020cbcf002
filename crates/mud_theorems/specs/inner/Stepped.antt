-- The result of a step.
use Rattle.mud_theorems.specs.declared.step.Step.{Step}
use Rattle.mud_theorems.specs.declared.step.Step.TheVariants.{Goes, Ends, Fails}

-- a property of what goes on, and one of what is over
abbrev pub MatchStep : {T L : Type 0} → (T → Type 0) → (L → Type 0) → Step T L → Type 0
MatchStep goes ends (Goes talk) = goes talk
MatchStep goes ends (Ends line) = ends line
MatchStep goes ends Fails = Unit {0}
