use Rattle.std.proofs.Common.{◌≡◌, ◌-◌, ◌≤◌, length, get_or, arith, rules}
use Rattle.std.proofs.lemmas.List.Sorted.{IsNonDecreasingBy-push}
use Rattle.mud_index.proofs.Places.{at_end}
use Rattle.mud_index.proofs.numbers.is_last.Goals as goal

pub returns-in-Some-clause-at_end : goal.returns-in-Some-clause-at_end
returns-in-Some-clause-at_end c = λ below.
    at_end c.args.number c.args.numbers.now c.requires
    (λ d some.
    let is : c.in-Some.last.now ≡ get_or c.args.numbers.now (length c.args.numbers.now - 1) d = search rules in
    let under : c.in-Some.last.now ≤ c.args.number = search rules in
    omega (arith, is, under))

pub returns-in-Some-clause-rising : goal.returns-in-Some-clause-rising
returns-in-Some-clause-rising c = λ below.
    IsNonDecreasingBy-push (λ y. y) c.args.numbers.now c.args.number c.requires
    (λ d some. search rules)
