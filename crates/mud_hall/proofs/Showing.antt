-- The guide's answers answer the questions.
use Rattle.std.proofs.Common.{◌≡◌, ℕ, length, Option, Some, refl, sym, subst}
use Rattle.mud_world.specs.State.{State}
use Rattle.mud_rules.specs.declared.verdict.Journey.{Journey}
use Rattle.mud_rules.specs.declared.verdict.Query.{Query}
use Rattle.mud_rules.specs.declared.verdict.Query.TheVariants as query
use Rattle.mud_rules.specs.declared.verdict.Verdict.TheVariants.{Ask}
use Rattle.mud_guide.specs.declared.answer.Answer.{Answer}
use Rattle.mud_hall.specs.inner.Desks.{IsResponse}
use Rattle.mud_hall.specs.Answers.{answer_shown, IsGuided, IsShown}
use Rattle.mud_hall.specs.inner.Answers.{IsProven}

pub guided : (w : State) (v : ℕ) (player : Option ℕ) (q : Query) (j : Journey) (a : Answer) → q ≡ query.Journey j
    → a.version ≡ v → IsGuided w v player j a → IsResponse w v player (Ask q) (Some a)
guided w v player q j a asks version is = (
  version,
  λ h world count. subst (λ x. IsShown h player x (answer_shown a)) (sym asks)
      (a, subst (λ x. IsGuided x (length h) player j a) world (subst (λ n. IsGuided w n player j a) count is), refl),
)

pub proven : (w : State) (v : ℕ) (player : Option ℕ) (q : Query) (j : Journey) (a : Answer) → q ≡ query.Proof j
    → a.version ≡ v → IsProven w v player j a → IsResponse w v player (Ask q) (Some a)
proven w v player q j a asks version is = (
  version,
  λ h world count. subst (λ x. IsShown h player x (answer_shown a)) (sym asks)
      (subst (λ x. IsProven x (length h) player j a) world (subst (λ n. IsProven w n player j a) count is)),
)
