use Rattle.std.proofs.Common.{sym}
use Rattle.mud_rules.proofs.Bounds.{number_of_object}
use Rattle.mud_rules.proofs.locking.check_object.Goals as goal

pub returns-then-exists-clause-number : goal.returns-then-exists-clause-number
returns-then-exists-clause-number c =
    number_of_object c.args.world.now c.args.number c.next_number-known.ensures.sound (sym c.if-exists.ensures)
