use Rattle.mud_server.proofs.Taken.{none_illegal}
use Rattle.mud_server.proofs.volumes.hall_of.Goals as goal

pub unreachable-requires : goal.unreachable-requires
unreachable-requires c =
    none_illegal c.args.entries.items c.in-Err-BadChange.field-0-0 c.requires.legal
    (rw c.in-Err-BadChange.field-0-is at c.in-Err-BadChange.ensures.fault)
