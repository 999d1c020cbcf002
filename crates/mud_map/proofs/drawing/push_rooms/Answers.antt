use Rattle.std.proofs.Common.{ℕ, List, ◌++◌, arith}
use Rattle.std.specs.List.{flat_map}
use Rattle.mud_world.specs.declared.record.Record.{Record}
use Rattle.mud_compact.proofs.Rows.{text_at, one_more, all_left}
use Rattle.mud_map.specs.Map.{node_of}
use Rattle.mud_map.proofs.drawing.push_rooms.Goals as goal

pub loop-number-init : goal.loop-number-init
loop-number-init c =
    let w = c.args.world.now in
    all_left (node_of c.args.drawn.now) c.args.out.now.items w.objects w.next
    c.next_number-number-end.ensures.sound.rising

pub loop-number-preserved : goal.loop-number-preserved
loop-number-preserved c =
    let w = c.args.world.now in
    let f : ℕ → Record → List ℕ = node_of c.args.drawn.now in
    one_more (text_at f w.objects) c.loop-number.number w.next c.loop-number.out.items c.push_room_at.new.out.items
    (c.args.out.now.items ++ flat_map (λ e. f e.0 e.1) w.objects)
    (omega (arith, c.loop-number-test.true, c.next_number-number-end.ensures.next)) c.loop-number.invariant
    c.in_ok-push_room_at.ensures
