use Rattle.std.proofs.Common.{◌∙◌}
use Rattle.mud_index.proofs.Seen.{zipped}
use Rattle.mud_index.proofs.Texts.{cloned}
use Rattle.mud_index.proofs.owners.Owners.copy.Goals as goal

pub returns : goal.returns
returns c =
    cloned _ _ (λ v w e. zipped _ (λ x y f. f) v.items w.items e.0)
    (λ x y e. e) c.self.inside.owners.entries c.in_ok-clone.field-0.entries c.in_ok-clone.ensures.cases
    ∙ c.self.view_is
