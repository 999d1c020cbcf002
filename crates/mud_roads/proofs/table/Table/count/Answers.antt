use Rattle.std.proofs.Common.{List, length, ap, arith}
use Rattle.mud_roads.specs.declared.label.Step.{Step}
use Rattle.mud_roads.proofs.Rows.{rows-count}
use Rattle.mud_roads.proofs.table.Table.count.Goals as goal

pub returns : goal.returns
returns c =
    let size = rows-count 0 c.self.inside.ends.items c.self.inside.steps.items in
    let view = ap (λ (rs : List (List Step)). length rs) c.self.view_is in
    omega (arith, c.len.ensures, size, view)
