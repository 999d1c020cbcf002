use Rattle.std.proofs.Common.{[], ◌∙◌, refl, arith, rules}
use Rattle.mud_rules.proofs.Lettered.{by_letter, no_letter, with_letter}
use Rattle.mud_rules.proofs.verb.rows_with.Goals as goal

pub returns-in-64 : goal.returns-in-64
returns-in-64 c = λ b bs same. by_letter 64 (with_letter 64) (λ ls. refl) b bs (same ∙ c.in-64.is)

pub returns-in-99 : goal.returns-in-99
returns-in-99 c = λ b bs same. by_letter 99 (with_letter 99) (λ ls. refl) b bs (same ∙ c.in-99.is)

pub returns-in-100 : goal.returns-in-100
returns-in-100 c = λ b bs same. by_letter 100 (with_letter 100) (λ ls. refl) b bs (same ∙ c.in-100.is)

pub returns-in-101 : goal.returns-in-101
returns-in-101 c = λ b bs same. by_letter 101 (with_letter 101) (λ ls. refl) b bs (same ∙ c.in-101.is)

pub returns-in-103 : goal.returns-in-103
returns-in-103 c = λ b bs same. by_letter 103 (with_letter 103) (λ ls. refl) b bs (same ∙ c.in-103.is)

pub returns-in-105 : goal.returns-in-105
returns-in-105 c = λ b bs same. by_letter 105 (with_letter 105) (λ ls. refl) b bs (same ∙ c.in-105.is)

pub returns-in-108 : goal.returns-in-108
returns-in-108 c = λ b bs same. by_letter 108 (with_letter 108) (λ ls. refl) b bs (same ∙ c.in-108.is)

pub returns-in-109 : goal.returns-in-109
returns-in-109 c = λ b bs same. by_letter 109 (with_letter 109) (λ ls. refl) b bs (same ∙ c.in-109.is)

pub returns-in-112 : goal.returns-in-112
returns-in-112 c = λ b bs same. by_letter 112 (with_letter 112) (λ ls. refl) b bs (same ∙ c.in-112.is)

pub returns-in-113 : goal.returns-in-113
returns-in-113 c = λ b bs same. by_letter 113 (with_letter 113) (λ ls. refl) b bs (same ∙ c.in-113.is)

pub returns-in-114 : goal.returns-in-114
returns-in-114 c = λ b bs same. by_letter 114 (with_letter 114) (λ ls. refl) b bs (same ∙ c.in-114.is)

pub returns-in-115 : goal.returns-in-115
returns-in-115 c = λ b bs same. by_letter 115 (with_letter 115) (λ ls. refl) b bs (same ∙ c.in-115.is)

pub returns-in-116 : goal.returns-in-116
returns-in-116 c = λ b bs same. by_letter 116 (with_letter 116) (λ ls. refl) b bs (same ∙ c.in-116.is)

pub returns-in_default : goal.returns-in_default
returns-in_default c =
    let no = c.in_default in
    by_letter c.args.letter []
    (no_letter c.args.letter
    (first_of (search rules, omega arith)) (first_of (search rules, omega arith))
    (first_of (search rules, omega arith)) (first_of (search rules, omega arith))
    (first_of (search rules, omega arith)) (first_of (search rules, omega arith))
    (first_of (search rules, omega arith)) (first_of (search rules, omega arith))
    (first_of (search rules, omega arith)) (first_of (search rules, omega arith))
    (first_of (search rules, omega arith)) (first_of (search rules, omega arith))
    (first_of (search rules, omega arith)))
