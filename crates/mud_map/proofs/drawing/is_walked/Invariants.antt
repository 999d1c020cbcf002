use Rattle.std.proofs.Common.{◌≡◌, drop}
use Rattle.mud_map.specs.Map.{is_walked}
use Rattle.mud_map.proofs.drawing.is_walked.Given as goal

-- no walk so far goes through the exit
abbrev pub invariant-loop-member : goal.invariant-loop-member
invariant-loop-member l = is_walked (drop l.member-index l.members) l.exit ≡ is_walked l.members l.exit
