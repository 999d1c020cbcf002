use Rattle.std.proofs.Common.{Ok, Err, ◌∙◌, sym, ap}
use Rattle.std.specs.Option.{option_map_or}
use Rattle.mud_world.specs.Refusals.{lesser}
use Rattle.mud_rules.specs.declared.verdict.Journey.TheVariants.{Meet}
use Rattle.mud_rules.specs.Journeys.{members}
use Rattle.mud_rules.specs.inner.Bars.{unfit}
use Rattle.mud_rules.proofs.Ordered.{meeting_is}
use Rattle.mud_rules.proofs.Parties.{fit}
use Rattle.mud_rules.proofs.journeys.meeting.Goals as goal

pub of-requires : goal.of-requires
of-requires c =
    fit c.in_ok-party.party.items c.least_refusal.result
    (ap (λ own. lesser own c.least_refusal.result) (sym (c.unfit.ensures ∙ ap unfit c.deref.ensures.value))
    ∙ sym c.lesser.ensures ∙ c.in-None.is)

pub returns-in-Some : goal.returns-in-Some
returns-in-Some c =
    let found = c.args.found.now in
    let party = c.deref.ensures.value ∙ c.in_ok-party.ensures in
    ap (λ r. option_map_or Err r (Ok (Meet (members found))))
    (sym c.in-Some.is ∙ c.lesser.ensures
    ∙ ap (λ own. lesser own c.least_refusal.result) (c.unfit.ensures ∙ ap unfit party)
    ∙ ap (lesser (unfit (members found))) c.least_refusal.ensures)
    ∙ meeting_is found

pub returns-in-None : goal.returns-in-None
returns-in-None c =
    let found = c.args.found.now in
    let party = c.deref.ensures.value ∙ c.in_ok-party.ensures in
    ap (λ members. Ok (Meet members)) (c.of.ensures ∙ c.in_ok-party.ensures)
    ∙ ap (λ r. option_map_or Err r (Ok (Meet (members found))))
    (sym c.in-None.is ∙ c.lesser.ensures
    ∙ ap (λ own. lesser own c.least_refusal.result) (c.unfit.ensures ∙ ap unfit party)
    ∙ ap (lesser (unfit (members found))) c.least_refusal.ensures)
    ∙ meeting_is found
