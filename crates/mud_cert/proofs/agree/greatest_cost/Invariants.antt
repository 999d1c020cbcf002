use Rattle.std.proofs.Common.{◌≡◌, drop}
use Rattle.mud_cert.specs.inner.Agreement.{greatest_cost, greatest_from}
use Rattle.mud_cert.proofs.agree.greatest_cost.Given as goal

abbrev pub invariant-loop-member : goal.invariant-loop-member
invariant-loop-member l =
    greatest_from l.greatest (drop l.member-index l.members) l.room ≡ greatest_cost l.members l.room
