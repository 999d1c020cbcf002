use Rattle.std.proofs.Common.{take, All}
use Rattle.std.specs.Prelude.{IsTrue}
use Rattle.mud_nvt.specs.inner.Lines.{IsPrintable}
use Rattle.mud_nvt.proofs.typed.are_printable.Given as goal

abbrev pub invariant-loop-byte : goal.invariant-loop-byte
invariant-loop-byte l = IsTrue l.printable → All IsPrintable (take l.byte-index l.bytes)
