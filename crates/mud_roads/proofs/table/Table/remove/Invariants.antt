use Rattle.std.proofs.Common.{◌≡◌, map, filter, length}
use Rattle.mud_roads.specs.inner.Tables.{rows, Fit, is_apart}
use Rattle.mud_roads.proofs.table.Table.remove.Given as goal

abbrev pub invariant-loop-index : goal.invariant-loop-index
invariant-loop-index l =
    record {
      fits : Fit 0 l.self-inside.ends.items l.self-inside.steps.items;
      same
          : map (filter (is_apart l.exit)) (rows 0 l.self-inside.ends.items l.self-inside.steps.items)
          ≡ map (filter (is_apart l.exit)) l.fn.self;
    }

abbrev pub decreases-loop-index : goal.decreases-loop-index
decreases-loop-index l = length l.self-inside.steps.items
