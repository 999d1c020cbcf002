-- The list has the stretches so far, without their outer spaces.
use Rattle.std.proofs.Common.{◌≡◌, map}
use Rattle.std.specs.Prelude.{string_bytes}
use Rattle.mud_key.specs.inner.NamesTexts.{without_outer_spaces}
use Rattle.mud_key.proofs.commas.parts.Given as goal

abbrev pub invariant-loop-stretch : goal.invariant-loop-stretch
invariant-loop-stretch l = map string_bytes l.parts.items ≡ map without_outer_spaces (map (λ x. x.now) l.yielded)
