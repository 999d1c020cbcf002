use Rattle.std.proofs.Common.{◌≡◌, Bool, true, false, not, refl, sym, ap, arith}
use Rattle.std.proofs.lemmas.List.{ext_get_or}
use Rattle.mud_world.proofs.Records.{bool_cases}
use Rattle.mud_roads.proofs.access.are_same.Goals as goal

not_true : (b : Bool) → not b ≡ true → b ≡ false
not_true true e = sym e
not_true false e = refl

pub returns : goal.returns
returns c = (
  λ same.
      ext_get_or false c.args.marks.now c.args.others.now c.if-marks-others.false
      (λ k lt. c.loop-at.invariant.0 (not_true c.loop-at.differ same) k
      (let done = c.loop-at-test.false in omega (arith, lt, done))),
  λ same.
      bool_cases c.loop-at.differ
      (λ e. absurd (c.loop-at.invariant.1 e same))
      (λ e. ap not e),
)
