use Rattle.std.proofs.Common.{ℕ, ◌+◌, below_more, refl}
use Rattle.mud_hall.specs.Settlement.{HasNumber}
use Rattle.mud_hall.proofs.close.first_missing.Goals as goal

pub loop-n-preserved : goal.loop-n-preserved
loop-n-preserved g c =
    let has : HasNumber c.args.desks.now (c.loop-n.n + 1) = c.if-not-has_number.ensures.0 refl in
    below_more (λ (k : ℕ). HasNumber c.args.desks.now (k + 1)) c.loop-n.n c.loop-n.invariant has
