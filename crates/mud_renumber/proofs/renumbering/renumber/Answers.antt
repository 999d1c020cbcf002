use Rattle.mud_renumber.proofs.Stays.{stays}
use Rattle.mud_renumber.proofs.renumbering.renumber.Goals as goal

pub returns-clause-ok : goal.returns-clause-ok
returns-clause-ok c = stays c.args.entries.now c.in_ok-shorter.shorter.items c.in_ok-shorter.ensures.ok
