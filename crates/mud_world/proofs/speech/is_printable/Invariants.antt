use Rattle.std.proofs.Common.{◌≡◌, take}
use Rattle.mud_world.specs.inner.Fields.{is_printable}
use Rattle.mud_world.proofs.speech.is_printable.Given as goal

abbrev pub invariant-loop-byte : goal.invariant-loop-byte
invariant-loop-byte l = l.printable ≡ is_printable (take l.byte-index l.text)
