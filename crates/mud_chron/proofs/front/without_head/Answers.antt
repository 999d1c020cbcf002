use Rattle.mud_chron.proofs.Fronts.{found_in_head}
use Rattle.mud_chron.proofs.front.without_head.Goals as goal

pub returns-clause-ok : goal.returns-clause-ok
returns-clause-ok c =
    found_in_head c.args.bytes.now c.new.result.items c.requires c.if-not-begins_head.ensures c.new.ensures.items
