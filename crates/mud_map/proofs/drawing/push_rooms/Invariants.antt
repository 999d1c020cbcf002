use Rattle.std.proofs.Common.{◌≡◌, ◌++◌, ◌-◌}
use Rattle.std.specs.List.{flat_map, range_with_len}
use Rattle.mud_compact.proofs.Rows.{text_at}
use Rattle.mud_map.specs.Map.{node_of}
use Rattle.mud_map.proofs.drawing.push_rooms.Given as goal

-- the text so far and the rest make up the whole
abbrev pub invariant-loop-number : goal.invariant-loop-number
invariant-loop-number l =
    l.out.items
    ++ flat_map (text_at (node_of l.drawn) l.world.objects)
    (range_with_len l.number (l.world.next - l.number))
    ≡ l.fn.out.items
    ++ flat_map (λ e. node_of l.drawn e.0 e.1) l.world.objects
