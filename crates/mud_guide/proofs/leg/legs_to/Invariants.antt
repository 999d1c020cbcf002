use Rattle.std.proofs.Common.{take}
use Rattle.std.specs.List.{AllZip}
use Rattle.mud_guide.specs.Legs.{IsLeg}
use Rattle.mud_guide.proofs.leg.legs_to.Given as goal

abbrev pub invariant-loop-member : goal.invariant-loop-member
invariant-loop-member l =
    AllZip (λ t j. IsLeg l.world l.to t.player j) (take l.member l.travellers) l.legs.items
