use Rattle.std.proofs.Common.{◌≡◌, ◌++◌, drop}
use Rattle.std.specs.List.{filter_map}
use Rattle.mud_roads.specs.Passable.{open_step}
use Rattle.mud_roads.proofs.access.Access.add_steps.Given as goal

abbrev pub invariant-loop-exit : goal.invariant-loop-exit
invariant-loop-exit l =
    (l.steps.items ++ filter_map (open_step l.world l.self.player) (drop l.exit-index l.exit-items)
    ≡ l.initial.steps.items ++ filter_map (open_step l.world l.self.player) l.exit-items)
