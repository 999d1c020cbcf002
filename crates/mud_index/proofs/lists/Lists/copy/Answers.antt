use Rattle.std.proofs.Common.{◌∙◌, ap}
use Rattle.std.specs.List.{enumerate_from}
use Rattle.mud_index.proofs.Seen.{zipped}
use Rattle.mud_index.proofs.lists.Lists.copy.Goals as goal

pub returns : goal.returns
returns c =
    ap (enumerate_from 0)
    (zipped _ (λ x y e. e) c.self.inside.lists.items c.in_ok-clone.field-0.items c.in_ok-clone.ensures.cases.0)
    ∙ c.self.view_is
