use Rattle.std.proofs.Common.{◌∙◌}
use Rattle.mud_chron.proofs.Fronts.{head_cases}
use Rattle.mud_chron.proofs.front.begins_head.Goals as goal

pub returns : goal.returns
returns c =
    head_cases c.begins-2.result c.args.bytes.now c.as_bytes.result.now c.as_bytes-2.result.now
    (c.as_bytes.ensures.value ∙ c.first_line.ensures) (c.as_bytes-2.ensures.value ∙ c.first_line-2.ensures)
    c.if-begins.ensures c.begins-2.ensures
