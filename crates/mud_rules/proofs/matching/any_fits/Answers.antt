use Rattle.std.proofs.Common.{◌∙◌, sym, ap}
use Rattle.std.specs.Prelude.{string_bytes}
use Rattle.mud_rules.specs.inner.Matches.{fits}
use Rattle.mud_rules.proofs.Searching.{list_any-map, any_past, any_here}
use Rattle.mud_rules.proofs.matching.any_fits.Goals as goal

pub loop-name-init : goal.loop-name-init
loop-name-init c = list_any-map (fits c.args.likeness c.args.text.now) string_bytes c.args.names.now

pub returns-then-fits : goal.returns-then-fits
returns-then-fits c =
    sym (any_here
    (λ name. fits c.args.likeness c.args.text.now
    (string_bytes name)) c.args.names.now c.loop-name.name-index c.name-item.result c.loop-name-test.true
    (ap (λ name. fits c.args.likeness c.args.text.now (string_bytes name)) (sym c.name-item.is)
    ∙ ap (fits c.args.likeness c.args.text.now) (sym c.deref.ensures) ∙ sym c.if-fits.ensures))
    ∙ c.loop-name.invariant

pub loop-name-preserved : goal.loop-name-preserved
loop-name-preserved c =
    sym (any_past
    (λ name. fits c.args.likeness c.args.text.now
    (string_bytes name)) c.args.names.now c.loop-name.name-index c.name-item.result c.loop-name-test.true
    (ap (λ name. fits c.args.likeness c.args.text.now (string_bytes name)) (sym c.name-item.is)
    ∙ ap (fits c.args.likeness c.args.text.now) (sym c.deref.ensures) ∙ sym c.if-fits.ensures))
    ∙ c.loop-name.invariant
