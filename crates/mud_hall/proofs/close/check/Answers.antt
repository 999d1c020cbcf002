use Rattle.std.proofs.Common.{inl, inr}
use Rattle.mud_hall.proofs.Apart.{all_same}
use Rattle.mud_hall.proofs.Checks.{all_apart, all_named}
use Rattle.mud_hall.proofs.close.check.Goals as goal

pub returns-clause-calls : goal.returns-clause-calls
returns-clause-calls g c =
    all_same c.args.desks.now c.args.first c.args.new.now (λ v h. c.in_default-mismatch.ensures.least v (inl h))

pub returns-clause-apart : goal.returns-clause-apart
returns-clause-apart g c = all_apart c.args.desks.now c.in_default.ensures

pub returns-clause-named : goal.returns-clause-named
returns-clause-named g c =
    all_named c.args.desks.now c.args.first c.args.new.now (λ v h. c.in_default-mismatch.ensures.least v (inr h))

pub returns-in-Some-first_missing-clause-fault : goal.returns-in-Some-first_missing-clause-fault
returns-in-Some-first_missing-clause-fault g c =
    (all_apart c.args.desks.now c.in_default.ensures, c.in-Some-first_missing.ensures.some)

pub returns-in-Some-mismatch-clause-fault : goal.returns-in-Some-mismatch-clause-fault
returns-in-Some-mismatch-clause-fault g c =
    (all_apart c.args.desks.now c.in_default.ensures, c.in-Some-mismatch.ensures.least)
