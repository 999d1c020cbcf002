use Rattle.std.proofs.Common.{◌∙◌, ap, reverse}
use Rattle.mud_key.specs.Commas.{without_leading_spaces}
use Rattle.mud_key.proofs.Spaces.{trimmed_in_front, trimmed_behind}
use Rattle.mud_key.proofs.commas.without_outer_spaces.Goals as goal

pub returns : goal.returns
returns c =
    trimmed_behind _ _ c.trim_end_matches.ensures.matches
    ∙ ap (λ z. reverse (without_leading_spaces (reverse z))) (trimmed_in_front _ _ c.trim_start_matches.ensures.matches)
