-- The verdict, if the source's bytes are known.
use Rattle.std.proofs.Common.{◌≡◌, ℕ, List, Option, Some, None, IfSome, subst}
use Rattle.mud_checker.specs.declared.outcome.Outcome.{Outcome}
use Rattle.mud_checker.specs.Verdict.{IsVerdict}
use Rattle.mud_check.specs.Input.{IsSplit}
use Rattle.mud_check.specs.Judgement.{IsJudged}

-- the verdict on the texts that were read is that on the source's bytes
pub judged : (left : Option (List ℕ)) (input history proof : List ℕ) (outcome : Outcome)
    → IfSome left (λ bytes. input ≡ bytes) → IsSplit input history proof → IsVerdict history proof outcome
    → IfSome left (λ bytes. IsJudged bytes outcome)
judged None input history proof outcome is split verdict = tt
judged (Some bytes) input history proof outcome is split verdict =
    subst (λ (b : List ℕ). IsJudged b outcome) is
    (record { history = history; proof = proof; split = split; verdict = verdict })
