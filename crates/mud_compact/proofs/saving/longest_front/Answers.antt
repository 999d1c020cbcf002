use Rattle.mud_compact.proofs.Longest.{whole_longest}
use Rattle.mud_compact.proofs.saving.longest_front.Goals as goal

pub returns-else-front-eq0-clause-ok : goal.returns-else-front-eq0-clause-ok
returns-else-front-eq0-clause-ok c =
    whole_longest c.args.bytes.now c.in-Ok.front.format c.in-Ok.front.entries.items c.in-Ok.front.keep
    c.in-Ok.ensures.ok c.if-front-eq0.false
