use Rattle.mud_web.proofs.Hosts.{host_decides}
use Rattle.mud_web.proofs.host.is_host.Goals as goal

pub returns : goal.returns
returns c = host_decides _ _ _ c.place_after.ensures c.is_end.ensures
