use Rattle.std.proofs.Common.{◌≡◌, max, map, string_bytes, arith, ap, ◌∙◌}
use Rattle.std.specs.Prelude.{unwrap_or}
use Rattle.mud_shelf.proofs.Spelled.{most_of_next, most_of_all, none_of_most, latest_of_most}
use Rattle.mud_shelf.proofs.names.latest_volume.Goals as goal

pub loop-name-preserved : goal.loop-name-preserved
loop-name-preserved c =
    let now : c.max-latest.result ≡ max (unwrap_or c.volume_number.result 0) c.loop-name.latest =
    c.max-latest.ensures ∙ ap (λ n. max n c.loop-name.latest) c.unwrap_or.ensures in
    most_of_next c.args.journal.now c.args.names.now c.loop-name.name-index c.name-item.result c.as_str.result.now
    c.loop-name.latest c.max-latest.result c.volume_number.result c.loop-name-test.true
    (c.as_str.ensures.value ∙ ap string_bytes c.name-item.is) c.loop-name.invariant c.volume_number.ensures now

pub returns-then-latest-eq0 : goal.returns-then-latest-eq0
returns-then-latest-eq0 c =
    none_of_most c.args.journal.now (map string_bytes c.args.names.now) c.loop-name.latest
    (most_of_all c.args.journal.now c.args.names.now c.loop-name.name-index c.loop-name.latest
    (omega (arith, c.loop-name-test.false)) c.loop-name.invariant)
    c.if-latest-eq0.true

pub returns-else-latest-eq0 : goal.returns-else-latest-eq0
returns-else-latest-eq0 c =
    latest_of_most c.args.journal.now (map string_bytes c.args.names.now) c.loop-name.latest
    (most_of_all c.args.journal.now c.args.names.now c.loop-name.name-index c.loop-name.latest
    (omega (arith, c.loop-name-test.false)) c.loop-name.invariant)
    c.if-latest-eq0.false
