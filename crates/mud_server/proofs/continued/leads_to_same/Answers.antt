use Rattle.mud_server.proofs.Same.{leads_so}
use Rattle.mud_server.proofs.continued.leads_to_same.Goals as goal

pub returns : goal.returns
returns c =
    leads_so c.is_same.result c.in-Ok.old c.in-Ok-replay.new c.args.history.now c.args.begun.now c.in-Ok.ensures.legal
    c.in-Ok.ensures.world c.in-Ok-replay.ensures.legal c.in-Ok-replay.ensures.world c.is_same.ensures
