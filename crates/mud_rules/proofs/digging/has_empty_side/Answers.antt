use Rattle.std.proofs.Common.{true, ◌∙◌, ap}
use Rattle.mud_rules.proofs.Sides.{empty_side, sides_of}
use Rattle.mud_rules.proofs.digging.has_empty_side.Goals as goal

pub loop-byte-init : goal.loop-byte-init
loop-byte-init c = ap (empty_side true) c.as_bytes-byte-items.ensures.value ∙ (sides_of c.args.text.now).0
