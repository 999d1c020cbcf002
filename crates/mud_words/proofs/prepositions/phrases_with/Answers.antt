use Rattle.std.proofs.Common.{[], ◌∙◌, refl, arith, rules}
use Rattle.mud_words.proofs.PrepositionLemmas.{by_letter, no_letter, with_letter}
use Rattle.mud_words.proofs.prepositions.phrases_with.Goals as goal

pub returns-in-97 : goal.returns-in-97
returns-in-97 c = λ b bs ws same. by_letter 97 (with_letter 97) (λ ls vs. refl) b bs ws (same ∙ c.in-97.is)

pub returns-in-98 : goal.returns-in-98
returns-in-98 c = λ b bs ws same. by_letter 98 (with_letter 98) (λ ls vs. refl) b bs ws (same ∙ c.in-98.is)

pub returns-in-102 : goal.returns-in-102
returns-in-102 c = λ b bs ws same. by_letter 102 (with_letter 102) (λ ls vs. refl) b bs ws (same ∙ c.in-102.is)

pub returns-in-105 : goal.returns-in-105
returns-in-105 c = λ b bs ws same. by_letter 105 (with_letter 105) (λ ls vs. refl) b bs ws (same ∙ c.in-105.is)

pub returns-in-111 : goal.returns-in-111
returns-in-111 c = λ b bs ws same. by_letter 111 (with_letter 111) (λ ls vs. refl) b bs ws (same ∙ c.in-111.is)

pub returns-in-116 : goal.returns-in-116
returns-in-116 c = λ b bs ws same. by_letter 116 (with_letter 116) (λ ls vs. refl) b bs ws (same ∙ c.in-116.is)

pub returns-in-117 : goal.returns-in-117
returns-in-117 c = λ b bs ws same. by_letter 117 (with_letter 117) (λ ls vs. refl) b bs ws (same ∙ c.in-117.is)

pub returns-in-119 : goal.returns-in-119
returns-in-119 c = λ b bs ws same. by_letter 119 (with_letter 119) (λ ls vs. refl) b bs ws (same ∙ c.in-119.is)

pub returns-in_default : goal.returns-in_default
returns-in_default c =
    let no = c.in_default in
    by_letter c.args.letter []
    (no_letter c.args.letter (first_of (search rules, omega arith)) (first_of (search rules, omega arith))
    (first_of (search rules, omega arith)) (first_of (search rules, omega arith))
    (first_of (search rules, omega arith)) (first_of (search rules, omega arith))
    (first_of (search rules, omega arith)) (first_of (search rules, omega arith)))
