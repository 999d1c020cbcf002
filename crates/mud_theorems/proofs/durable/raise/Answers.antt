use Rattle.std.proofs.Common.{rules, [], ◌∷◌}
use Rattle.mud_theorems.proofs.Claims.{raises_as}
use Rattle.mud_theorems.proofs.durable.raise.Goals as goal

pub swap_as-requires : goal.swap_as-requires
swap_as-requires g c =
    let k = c.requires.knows in
    (search rules, (search rules, (c.requires.cell, raises_as _ _ k.0 (c.args.count ∷ []) k.2 k.1)))
