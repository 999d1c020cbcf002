use Rattle.std.proofs.Common.{take}
use Rattle.mud_explain.specs.inner.Steps.{AreHanded}
use Rattle.mud_explain.proofs.play.handed_in.Given as goal

-- the desks with the numbers so far are handed in
abbrev pub invariant-loop-number : goal.invariant-loop-number
invariant-loop-number g l = AreHanded (take l.number-index l.numbers) l.fn.desks.items l.handed.items l.desks.items
