use Rattle.std.proofs.Common.{◌≡◌, ◌∙◌, sym, None}
use Rattle.mud_cert.specs.inner.Tests.{first_doubt}
use Rattle.mud_cert.specs.Valid.{IsValid}
use Rattle.mud_cert.proofs.First.{answered-first}
use Rattle.mud_cert.proofs.Optimal.{valid_is_optimal}
use Rattle.mud_cert.proofs.Valid.{passed-is-valid}
use Rattle.mud_cert.proofs.judge.check.Goals as goal

pub returns-in-None-clause-valid : goal.returns-in-None-clause-valid
returns-in-None-clause-valid c = λ h.
    let none : first_doubt c.args.world.now c.args.cert.now ≡ None = sym c.in_ok-first_doubt.ensures ∙ c.in-None.is in
    (passed-is-valid c.args.world.now c.know_both.ensures.world c.args.cert.now c.know_both.ensures.certificate).0 none

pub returns-in-None-clause-optimal : goal.returns-in-None-clause-optimal
returns-in-None-clause-optimal c = λ h.
    let none : first_doubt c.args.world.now c.args.cert.now ≡ None = sym c.in_ok-first_doubt.ensures ∙ c.in-None.is in
    let valid : IsValid c.args.world.now c.args.cert.now =
    (passed-is-valid c.args.world.now c.know_both.ensures.world c.args.cert.now c.know_both.ensures.certificate).0
    none in
    valid_is_optimal c.args.world.now c.know_both.ensures.world c.args.cert.now c.know_both.ensures.certificate valid

pub returns-in-Some-clause-refuses : goal.returns-in-Some-clause-refuses
returns-in-Some-clause-refuses c = λ other.
    answered-first c.args.world.now c.know_both.ensures.world c.args.cert.now c.know_both.ensures.certificate
    c.in-Some.doubt (sym c.in_ok-first_doubt.ensures ∙ c.in-Some.is)
