-- Laws of findings.
use Rattle.std.specs.Prelude.{◌≡◌, ◌≢◌, ℕ, List, All}
use Rattle.mud_key.specs.declared.codes.TheConstants.{CR}
use Rattle.mud_roads.specs.Laws.{IsOne}
use Rattle.mud_checker.specs.Finding.{without_returns, IsFinding}

-- two texts have at most one finding
abbrev pub FindsOne : Type 0
FindsOne = (history proof : List ℕ) → IsOne (IsFinding history proof)

-- bytes without a CR are unchanged
abbrev pub DropsNothing : Type 0
DropsNothing = (bytes : List ℕ) → All (λ b. b ≢ CR) bytes → without_returns bytes ≡ bytes
