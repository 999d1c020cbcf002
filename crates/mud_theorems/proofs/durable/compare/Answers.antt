use Rattle.std.proofs.Common.{rules, ap, ◌∙◌}
use Rattle.mud_theorems.proofs.Claims.{takes_in_as, compares_as}
use Rattle.mud_theorems.proofs.durable.compare.Goals as goal

pub join_pass-requires : goal.join_pass-requires
join_pass-requires g c = (
  search rules,
  (search rules, ((c.requires.cell, c.requires.claim.0, c.requires.claim.1), takes_in_as _ _ _ _ _ c.requires.knows.1)),
)

pub load_as-requires : goal.load_as-requires
load_as-requires g c =
    let j = c.join_pass.ensures in (
      search rules,
      (
        search rules,
        (
          j.0.0 ∙ c.requires.cell,
          compares_as _ _ (ap (λ v. v.keeps) j.1 ∙ ap (λ v. v.keeps) c.requires.knows.1),
        ),
      ),
    )
