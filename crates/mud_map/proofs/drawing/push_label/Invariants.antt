use Rattle.std.proofs.Common.{◌≡◌, ◌++◌, take}
use Rattle.std.specs.List.{flat_map}
use Rattle.mud_map.specs.Map.{cost_text}
use Rattle.mud_map.proofs.drawing.push_label.Given as goal

abbrev pub invariant-loop-entry : goal.invariant-loop-entry
invariant-loop-entry l =
    l.out.items ≡ l.fn.out.items ++ flat_map (cost_text l.room l.player) (take l.entry-index l.labels)
