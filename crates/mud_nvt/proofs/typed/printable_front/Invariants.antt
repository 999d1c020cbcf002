use Rattle.std.proofs.Common.{take, All}
use Rattle.mud_nvt.specs.inner.Lines.{IsPrintable}
use Rattle.mud_nvt.proofs.typed.printable_front.Given as goal

abbrev pub invariant-loop-at : goal.invariant-loop-at
invariant-loop-at l = All IsPrintable (take l.at l.bytes)
