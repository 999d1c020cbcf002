use Rattle.std.proofs.Common.{◌≡◌, ◌++◌, take}
use Rattle.std.specs.List.{flat_map}
use Rattle.mud_map.specs.Map.{label_text}
use Rattle.mud_map.proofs.drawing.push_labels.Given as goal

abbrev pub invariant-loop-member : goal.invariant-loop-member
invariant-loop-member l = l.out.items ≡ l.fn.out.items ++ flat_map (label_text l.room) (take l.member-index l.members)
