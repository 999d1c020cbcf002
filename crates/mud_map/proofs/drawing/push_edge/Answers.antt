use Rattle.std.proofs.Common.{◌++◌, ◌∙◌, sym, codes}
use Rattle.std.proofs.lemmas.Result.{IfOk-equal}
use Rattle.mud_map.specs.Map.{Drawing, drawing, edge_text}
use Rattle.mud_map.proofs.Joined.{edge_joined}
use Rattle.mud_map.proofs.drawing.push_edge.Goals as goal

pub returns : goal.returns
returns c =
    let drawn : Drawing = drawing c.drawn.inside.members.now c.drawn.inside.meeting in
    rw (sym c.drawn.view_is)
    (IfOk-equal c.push.result c.push.new.out.items (c.push_walk.new.out.items ++ codes "];\n")
    (c.args.out.now.items ++ edge_text drawn c.args.number c.args.kept.now c.args.passage) c.push.ensures
    (edge_joined drawn c.args.number c.args.kept.now c.args.passage c.args.out.now.items c.push_ends.new.out.items
    c.as_slice.result.now c.push_label_part.new.out.items c.push_lock.new.out.items c.push_walk.new.out.items
    c.in_ok-push_ends.ensures (c.as_slice.ensures.value ∙ c.in_ok-label.ensures)
    c.in_ok-push_label_part.ensures c.in_ok-push_lock.ensures c.in_ok-push_walk.ensures))
