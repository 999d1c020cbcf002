use Rattle.std.proofs.Common.{◌≡◌, ◌++◌, string_bytes, take}
use Rattle.mud_nvt.specs.UnitViews.{all_shown}
use Rattle.mud_explain.specs.inner.Texts.{units_text}
use Rattle.mud_explain.proofs.units.push_units.Given as goal

abbrev pub invariant-loop-unit : goal.invariant-loop-unit
invariant-loop-unit l = string_bytes l.out ≡ string_bytes l.fn.out ++ units_text (all_shown (take l.unit-index l.given))
