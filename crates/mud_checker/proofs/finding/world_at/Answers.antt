use Rattle.mud_checker.proofs.Trials.{no-fault}
use Rattle.mud_checker.proofs.finding.world_at.Goals as goal

pub unreachable-requires : goal.unreachable-requires
unreachable-requires c =
    no-fault c.args.entries.now c.args.version c.in-Err.fault c.requires.legal c.in-Err.ensures.err
    c.in_default.not-OutOfMemory
