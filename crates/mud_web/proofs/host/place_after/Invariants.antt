use Rattle.std.proofs.Common.{◌≡◌, take}
use Rattle.std.specs.List.{fold}
use Rattle.mud_web.specs.declared.host.HostPlace.TheVariants.{Start}
use Rattle.mud_web.specs.inner.HostPlaces.{next}
use Rattle.mud_web.proofs.host.place_after.Given as goal

abbrev pub invariant-loop-byte : goal.invariant-loop-byte
invariant-loop-byte l = l.place ≡ fold next Start (take l.byte-index l.text)
