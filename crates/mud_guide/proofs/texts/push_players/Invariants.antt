use Rattle.std.proofs.Common.{◌≡◌, ◌++◌, take}
use Rattle.std.specs.Prelude.{string_bytes, codes}
use Rattle.std.specs.List.{flat_map}
use Rattle.mud_guide.specs.Texts.{object}
use Rattle.mud_guide.proofs.texts.push_players.Given as goal

abbrev pub invariant-loop-leg : goal.invariant-loop-leg
invariant-loop-leg l = string_bytes l.text ≡ string_bytes l.fn.text ++ flat_map (λ j. codes " " ++ object j.player)
    (take l.leg-index l.legs)
