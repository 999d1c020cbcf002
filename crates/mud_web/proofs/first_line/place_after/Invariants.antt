use Rattle.std.proofs.Common.{◌≡◌, take}
use Rattle.std.specs.List.{fold}
use Rattle.mud_web.specs.inner.Places.{next}
use Rattle.mud_web.proofs.first_line.place_after.Given as goal

abbrev pub invariant-loop-byte : goal.invariant-loop-byte
invariant-loop-byte l = l.so_far ≡ fold next l.fn.place (take l.byte-index l.bytes)
