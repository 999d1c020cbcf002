use Rattle.std.proofs.Common.{◌≡◌, ◌++◌, take}
use Rattle.std.specs.Prelude.{string_bytes, codes, decimal}
use Rattle.std.specs.List.{flat_map}
use Rattle.mud_guide.specs.Ways.{exits_of}
use Rattle.mud_guide.proofs.texts.push_exits.Given as goal

abbrev pub invariant-loop-step : goal.invariant-loop-step
invariant-loop-step l = string_bytes l.text ≡ string_bytes l.fn.text
    ++ flat_map (λ exit. codes " #" ++ decimal exit) (exits_of (take l.step-index l.steps))
