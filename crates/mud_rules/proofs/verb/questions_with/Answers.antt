use Rattle.std.proofs.Common.{[], ◌∙◌, refl, arith, rules}
use Rattle.mud_rules.proofs.Lettered.{with_letter, asking, questions_by_letter, no_question}
use Rattle.mud_rules.proofs.verb.questions_with.Goals as goal

pub returns-in-64 : goal.returns-in-64
returns-in-64 c =
    λ b bs same. questions_by_letter 64 (asking (with_letter 64)) (λ ls. refl) b bs (same ∙ c.in-64.is)

pub returns-in-105 : goal.returns-in-105
returns-in-105 c =
    λ b bs same. questions_by_letter 105 (asking (with_letter 105)) (λ ls. refl) b bs (same ∙ c.in-105.is)

pub returns-in-108 : goal.returns-in-108
returns-in-108 c =
    λ b bs same. questions_by_letter 108 (asking (with_letter 108)) (λ ls. refl) b bs (same ∙ c.in-108.is)

pub returns-in-109 : goal.returns-in-109
returns-in-109 c =
    λ b bs same. questions_by_letter 109 (asking (with_letter 109)) (λ ls. refl) b bs (same ∙ c.in-109.is)

pub returns-in-112 : goal.returns-in-112
returns-in-112 c =
    λ b bs same. questions_by_letter 112 (asking (with_letter 112)) (λ ls. refl) b bs (same ∙ c.in-112.is)

pub returns-in-113 : goal.returns-in-113
returns-in-113 c =
    λ b bs same. questions_by_letter 113 (asking (with_letter 113)) (λ ls. refl) b bs (same ∙ c.in-113.is)

pub returns-in-114 : goal.returns-in-114
returns-in-114 c =
    λ b bs same. questions_by_letter 114 (asking (with_letter 114)) (λ ls. refl) b bs (same ∙ c.in-114.is)

pub returns-in_default : goal.returns-in_default
returns-in_default c =
    let no = c.in_default in
    questions_by_letter c.args.letter []
    (no_question c.args.letter
    (first_of (search rules, omega arith)) (first_of (search rules, omega arith))
    (first_of (search rules, omega arith)) (first_of (search rules, omega arith))
    (first_of (search rules, omega arith)) (first_of (search rules, omega arith))
    (first_of (search rules, omega arith)))
